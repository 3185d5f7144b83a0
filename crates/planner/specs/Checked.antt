-- What a check of a list of actions answers.
use Rattle.std.specs.Prelude.{◌≡◌, ℕ, ◌+◌, true, false, List, ◌∷◌, ◌++◌, length, Ok, Err, Result}
use Rattle.model.specs.Meaning.{Meaning}
use Rattle.planner.specs.Leads.{Leads, Reaches}
use Rattle.planner.specs.declared.fault.CheckFault.{CheckFault}
use Rattle.planner.specs.declared.fault.CheckFault.TheVariants.{NotAState, Step, Short}

-- the action at a place, counted from 1, is the first that is not allowed, and f is its cause
pub record Stops {S F : Type 0} (m : Meaning S F) (s : S) (xs : List ℕ) (place : ℕ) (f : F) : Type 0 where
  pub before : List ℕ
  pub action : ℕ
  pub after : List ℕ
  pub at : S
  pub splits : xs ≡ before ++ (action ∷ after)
  pub placed : place ≡ length before + 1
  pub reaches : Reaches m s before at
  pub cause : m.step at action ≡ Err f

-- the state that the whole list reaches does not meet the goal
pub record FallsShort {S F : Type 0} (m : Meaning S F) (s : S) (xs : List ℕ) : Type 0 where
  pub at : S
  pub reaches : Reaches m s xs at
  pub unmet : m.at_goal at ≡ false

-- what each answer says
abbrev pub CheckSays : {S F : Type 0} → Meaning S F → S → List ℕ → Result ℕ (CheckFault F) → Type 0
CheckSays m s xs (Ok n) = (m.is_state s ≡ true) × Leads m s xs × (n ≡ length xs)
CheckSays m s xs (Err NotAState) = m.is_state s ≡ false
CheckSays m s xs (Err (Step place f)) = (m.is_state s ≡ true) × Stops m s xs place f
CheckSays m s xs (Err (Short n)) = (m.is_state s ≡ true) × FallsShort m s xs × (n ≡ length xs)

pub record Checked {S F : Type 0} (m : Meaning S F) (s : S) (xs : List ℕ) (r : Result ℕ (CheckFault F)) : Type 0 where
  pub says : CheckSays m s xs r
  -- it accepts wherever it should
  pub accepts : m.is_state s ≡ true → Leads m s xs → r ≡ Ok (length xs)
