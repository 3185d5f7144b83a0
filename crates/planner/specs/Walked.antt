-- What the walk inside a check comes to. No public contract names these.
use Rattle.std.specs.Prelude.{◌≡◌, ℕ, true, List, Ok, Err, Result}
use Rattle.model.specs.Meaning.{Meaning}
use Rattle.planner.specs.Checked.{Stops}
use Rattle.planner.specs.Leads.{Leads, Reaches}
use Rattle.planner.specs.declared.fault.CheckFault.{CheckFault}
use Rattle.planner.specs.declared.fault.CheckFault.TheVariants.{NotAState, Step, Short}

-- the whole list reaches t, and leads to the goal exactly where t meets it
pub record Arrives {S F : Type 0} (m : Meaning S F) (s : S) (xs : List ℕ) (t : S) : Type 0 where
  pub reaches : Reaches m s xs t
  pub leads : m.at_goal t ≡ true → Leads m s xs
  pub only : Leads m s xs → m.at_goal t ≡ true

-- the action at a place is not allowed, so the list does not lead to the goal
pub record Broken {S F : Type 0} (m : Meaning S F) (s : S) (xs : List ℕ) (place : ℕ) (f : F) : Type 0 where
  pub stops : Stops m s xs place f
  pub never : Leads m s xs → ⊥

abbrev pub Walked : {S F : Type 0} → Meaning S F → S → List ℕ → Result S (CheckFault F) → Type 0
Walked m s xs (Ok t) = Arrives m s xs t
Walked m s xs (Err NotAState) = ⊥
Walked m s xs (Err (Step place f)) = Broken m s xs place f
Walked m s xs (Err (Short n)) = ⊥

-- what a step answers, with the place of its action added to a cause
abbrev pub placed : {S F : Type 0} → ℕ → Result S F → Result S (CheckFault F)
placed place (Ok t) = Ok t
placed place (Err f) = Err (Step place f)
