-- The path of a search on two trails, and what a step of the search does to it. No public contract names these.
use Rattle.std.specs.Prelude.{◌≡◌, ℕ, ◌+◌, ◌<◌, ◌≤◌, List, [], ◌∷◌, ◌++◌, length, Some, None, Option}
use Rattle.trail.specs.Held.{held, room, KeptFrom}
use Rattle.planner.specs.declared.path.Path.{Path}

-- the actions taken
abbrev pub taken : {S : Type 0} → Path S → List ℕ
taken p = held p.actions.now

-- the states passed, the one that the path starts from among them
abbrev pub passed : {S : Type 0} → Path S → List S
passed p = held p.states.now

-- there are places for one action more, and for one state more
pub record CanGrow {S : Type 0} (p : Path S) : Type 0 where
  pub states : length (passed p) < room p.states.now
  pub actions : length (taken p) < room p.actions.now

-- there are places for n actions, and for the n + 1 states that they pass
pub record HasRoom {S : Type 0} (n : ℕ) (p : Path S) : Type 0 where
  pub states : n + 1 ≤ room p.states.now
  pub actions : n ≤ room p.actions.now

-- p and q stand on the same trails, and of their lent places those for states from n on and those for actions from k on
-- hold what they held
pub record KeptPast {S : Type 0} (n k : ℕ) (p q : Path S) : Type 0 where
  pub states_trail : q.states.ghost_name ≡ p.states.ghost_name
  pub actions_trail : q.actions.ghost_name ≡ p.actions.ghost_name
  pub states : KeptFrom n p.states.now q.states.now
  pub actions : KeptFrom k p.actions.now q.actions.now

-- The path loses its last action, and the last of its states, if it has one. With no action it stays as it is.
abbrev pub TakesBack : {S : Type 0} → Path S → Option ℕ → Path S → Type 0
TakesBack p None q = (taken p ≡ []) × (q ≡ p)
TakesBack {S} p (Some a) q =
    (taken p ≡ taken q ++ (a ∷ [])) × ((front : List S) (u : S) → passed p ≡ front ++ (u ∷ []) → passed q ≡ front)

-- the last element of a list, or d where there is none
abbrev pub last_or : {T : Type 0} → List T → T → T
last_or [] d = d
last_or (x ∷ xs) d = last_or xs x
