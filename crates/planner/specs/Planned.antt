-- What planning answers, when it refuses, and what the trails and their lent places then hold.
use Rattle.std.specs.Prelude.{◌≡◌, ℕ, ◌+◌, ◌<◌, ◌≤◌, min, true, false, List, [], Ok, Err, Result}
use Rattle.model.specs.Meaning.{Meaning}
use Rattle.trail.specs.Held.{held, room, KeptFrom}
use Rattle.trail.specs.declared.Trail.{Trail}
use Rattle.planner.specs.Leads.{NoWay, Distance, First}
use Rattle.planner.specs.declared.fault.PlanFault.{PlanFault}
use Rattle.planner.specs.declared.fault.PlanFault.TheVariants.{NotAState, FewStates, FewActions}
use Rattle.planner.specs.declared.planning.PlanAnswer.{PlanAnswer}
use Rattle.planner.specs.declared.planning.PlanAnswer.TheVariants as answers

-- a bound above 24 is read as 24
abbrev pub bound_read : ℕ → ℕ
bound_read bound = min bound 24

-- The path has d actions, at most r. None that leads to the goal is shorter, and of those as short it is the first.
pub record Best {S F : Type 0} (m : Meaning S F) (s : S) (r d : ℕ) (path : List ℕ) (ss : List S) : Type 0 where
  pub within : d ≤ r
  pub distance : Distance m s d
  pub first : First m s d path ss

-- Planning goes ahead: from a state, with places for r + 1 states and r actions.
pub record Ready {S F : Type 0} (m : Meaning S F) (s : S) (r : ℕ) (states : Trail S) (actions : Trail ℕ) : Type 0 where
  pub state : m.is_state s ≡ true
  pub states_room : r + 1 ≤ room states
  pub actions_room : r ≤ room actions

-- What each answer says of the model, of the trails before, and of the trails after.
abbrev pub PlanSays : {S F : Type 0} → Meaning S F → S → ℕ → Trail S → Trail ℕ → Result PlanAnswer PlanFault → Trail S → Trail ℕ → Type 0
PlanSays m s r states actions (Ok (answers.Steps d)) states' actions' =
    Ready m s r states actions × Best m s r d (held actions') (held states')
PlanSays m s r states actions (Ok answers.NoWay) states' actions' =
    Ready m s r states actions × NoWay m s r × (held states' ≡ []) × (held actions' ≡ [])
PlanSays m s r states actions (Err NotAState) states' actions' =
    (m.is_state s ≡ false) × (states' ≡ states) × (actions' ≡ actions)
PlanSays m s r states actions (Err FewStates) states' actions' =
    (m.is_state s ≡ true) × (room states < r + 1) × (states' ≡ states) × (actions' ≡ actions)
PlanSays m s r states actions (Err FewActions) states' actions' =
    (m.is_state s ≡ true) × (r + 1 ≤ room states) × (room actions < r) × (states' ≡ states) × (actions' ≡ actions)

pub record Planned {S F : Type 0} (m : Meaning S F) (s : S) (r : ℕ) (states : Trail S) (actions : Trail ℕ) (a : Result PlanAnswer PlanFault) (states' : Trail S) (actions' : Trail ℕ) : Type 0 where
  pub says : PlanSays m s r states actions a states' actions'
  -- of the lent places only the first r + 1 for states and the first r for actions may have changed
  pub states_kept : KeptFrom (r + 1) states states'
  pub actions_kept : KeptFrom r actions actions'
  -- unless it refuses, 'no way' is said wherever it is true, and the fewest actions wherever they are within r
  pub no_way : Ready m s r states actions → NoWay m s r → a ≡ Ok answers.NoWay
  pub steps : (d : ℕ) → Ready m s r states actions → Distance m s d → d ≤ r → a ≡ Ok (answers.Steps d)
