-- What a model means, and the rules that every model keeps.
use Rattle.std.specs.Prelude.{◌≡◌, ℕ, ◌<◌, ◌≤◌, Bool, true, false, Ok, Err, Result}

-- S are the values that may stand for a state, F the causes for which a step is not taken.
pub record Meaning (S F : Type 0) : Type 0 where
  -- the actions are numbered from 1 to this number
  pub actions : ℕ
  pub start : S
  pub is_state : S → Bool
  pub at_goal : S → Bool
  -- the state that an action leads to, or the cause for which it is not allowed
  pub step : S → ℕ → Result S F

-- the step gets a cause
abbrev pub Refuses : {S F : Type 0} → Result S F → Type 0
Refuses (Ok t) = ⊥
Refuses (Err f) = Unit {0}

-- The rules of the model interface.
pub record Lawful {S F : Type 0} (m : Meaning S F) : Type 0 where
  pub few : m.actions ≤ 200
  pub start_state : m.is_state m.start ≡ true
  -- every next state is a state
  pub step_state : (s : S) (a : ℕ) (t : S) → m.step s a ≡ Ok t → m.is_state t ≡ true
  -- a value that is not a state does not meet the goal, and no action is allowed in it
  pub goal_state : (s : S) → m.is_state s ≡ false → m.at_goal s ≡ false
  pub no_state : (s : S) (a : ℕ) → m.is_state s ≡ false → Refuses (m.step s a)
  -- a number below the first action, or above the last, is no action
  pub below : (s : S) → Refuses (m.step s 0)
  pub above : (s : S) (a : ℕ) → m.actions < a → Refuses (m.step s a)
