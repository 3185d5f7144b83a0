-- What may be entered into a draft, and what each entry leaves.
use Rattle.std.specs.Prelude.{◌≡◌, ℕ, ℤ, pos, ◌<◌, ◌≤◌, false, ◌&&◌, ◌||◌, List, [], ◌∷◌, ◌++◌, map, length, Some, None, Option, Result, Ok, Err}
use Rattle.arrayvec.specs.ArrayVec.{ArrayVec}
use Rattle.literals.specs.Literal.{number_of, same}
use Rattle.literals.specs.Set.{has}
use Rattle.literals.specs.declared.literal.Literal.{Literal}
use Rattle.laws.specs.Code.{rows_of}
use Rattle.laws.specs.Rows.{Row, impossible, effect, state}
use Rattle.law_table.specs.Limits.{BodyFits, Fits, IsAction}
use Rattle.law_table.specs.declared.draft.Draft.{Draft}
use Rattle.law_table.specs.declared.fault.EntryFault.{EntryFault}
use Rattle.law_table.specs.declared.fault.EntryFault.TheVariants.{OutOfRange, Full}

-- a row as it is asked for: each literal is its number
pub data Asked : Type 0 where
  impossible_if : ℕ → List ℤ → Asked
  causes : ℕ → ℤ → List ℤ → Asked
  always : ℤ → List ℤ → Asked

-- how a row is asked for; a state law with no head by the head 0
abbrev pub asked_of : Row → Asked
asked_of (impossible a body) = impossible_if a (map number_of body)
asked_of (effect a h body) = causes a (number_of h) (map number_of body)
asked_of (state None body) = always (pos 0) (map number_of body)
asked_of (state (Some h) body) = always (number_of h) (map number_of body)

abbrev pub rows : Draft → List Row
rows d = rows_of d.literals.items d.laws.items

-- the new draft is the old one with a row more, as the last
pub record WithRow (old : Draft) (r : Row) (new : Draft) : Type 0 where
  pub fluents : new.fluents ≡ old.fluents
  pub actions : new.actions ≡ old.actions
  pub rows : rows new ≡ rows old ++ r ∷ []
  pub goal : new.goal ≡ old.goal
  pub given : new.given ≡ old.given
  pub again : new.again ≡ old.again

-- What asking for a row leaves: the row is there, or it is beyond a limit, or there is no room.
abbrev pub RowEntered : Draft → Asked → Result (Unit {0}) EntryFault → Draft → Type 0
RowEntered old asked (Ok _) new = (r : Row) × (asked_of r ≡ asked) × Fits old.fluents old.actions r × (length (rows old) < 192) × WithRow old r new
RowEntered old asked (Err OutOfRange) new = ((r : Row) → asked_of r ≡ asked → Fits old.fluents old.actions r → ⊥) × (new ≡ old)
RowEntered old asked (Err Full) new = ((r : Row) × (asked_of r ≡ asked) × Fits old.fluents old.actions r) × (length (rows old) ≡ 192) × (new ≡ old)

-- The numbers as literals of the first n fluents, or that they are not.
abbrev pub LiteralRead : ℕ → ℤ → Result Literal EntryFault → Type 0
LiteralRead n number (Ok l) = (number_of l ≡ number) × (l.place < n)
LiteralRead n number (Err OutOfRange) = (l : Literal) → number_of l ≡ number → l.place < n → ⊥
LiteralRead n number (Err Full) = ⊥

abbrev pub BodyRead : ℕ → List ℤ → Result (ArrayVec Literal) EntryFault → Type 0
BodyRead n numbers (Ok ls) = (map number_of ls.items ≡ numbers) × BodyFits n ls.items
BodyRead n numbers (Err OutOfRange) = (ls : List Literal) → map number_of ls ≡ numbers → BodyFits n ls → ⊥
BodyRead n numbers (Err Full) = ⊥

-- the head of a state law
abbrev pub HeadRead : ℕ → ℤ → Result (Option Literal) EntryFault → Type 0
HeadRead n number (Ok None) = number ≡ pos 0
HeadRead n number (Ok (Some l)) = (number_of l ≡ number) × (l.place < n)
HeadRead n number (Err OutOfRange) = (number ≡ pos 0 → ⊥) × ((l : Literal) → number_of l ≡ number → l.place < n → ⊥)
HeadRead n number (Err Full) = ⊥

-- whether the number is an action's
abbrev pub ActionRead : ℕ → ℕ → Result (Unit {0}) EntryFault → Type 0
ActionRead actions a (Ok u) = IsAction actions a
ActionRead actions a (Err OutOfRange) = IsAction actions a → ⊥
ActionRead actions a (Err Full) = ⊥

-- what laying down a row leaves: it is there as the last one, or there is no room
abbrev pub RowLaid : Draft → Row → Result (Unit {0}) EntryFault → Draft → Type 0
RowLaid old r (Ok u) new = (length (rows old) < 192) × WithRow old r new
RowLaid old r (Err Full) new = (length (rows old) ≡ 192) × (new ≡ old)
RowLaid old r (Err OutOfRange) new = ⊥

-- from 1 to 64 fluents, at most 200 actions
abbrev pub InLimits : ℕ → ℕ → Type 0
InLimits n actions = (1 ≤ n) × (n ≤ 64) × (actions ≤ 200)

-- nothing is entered yet
pub record Blank (n a : ℕ) (d : Draft) : Type 0 where
  pub fluents : d.fluents ≡ n
  pub actions : d.actions ≡ a
  pub rows : rows d ≡ []
  pub goal : d.goal.items ≡ []
  pub given : (l : Literal) → has d.given l ≡ false
  pub again : (l : Literal) → has d.again l ≡ false

-- What beginning a draft gives: a draft in which nothing is entered, or a limit is passed.
abbrev pub Begun : ℕ → ℕ → Result Draft EntryFault → Type 0
Begun n actions (Ok d) = InLimits n actions × Blank n actions d
Begun n actions (Err OutOfRange) = InLimits n actions → ⊥
Begun n actions (Err Full) = ⊥

-- the new draft is the old one with a literal more in the goal, as the last
pub record WithGoal (old : Draft) (l : Literal) (new : Draft) : Type 0 where
  pub fluents : new.fluents ≡ old.fluents
  pub actions : new.actions ≡ old.actions
  pub rows : rows new ≡ rows old
  pub goal : new.goal.items ≡ old.goal.items ++ l ∷ []
  pub given : new.given ≡ old.given
  pub again : new.again ≡ old.again

-- What asking for a goal literal leaves: it is there, or there is no such literal, or there is no room.
abbrev pub GoalEntered : Draft → ℤ → Result (Unit {0}) EntryFault → Draft → Type 0
GoalEntered old number (Ok u) new = (l : Literal) × (number_of l ≡ number) × (l.place < old.fluents) × (length old.goal.items < 16) × WithGoal old l new
GoalEntered old number (Err OutOfRange) new = ((l : Literal) → number_of l ≡ number → l.place < old.fluents → ⊥) × (new ≡ old)
GoalEntered old number (Err Full) new = ((l : Literal) × (number_of l ≡ number) × (l.place < old.fluents)) × (length old.goal.items ≡ 16) × (new ≡ old)

-- the new draft is the old one with a literal more for the start; a second time is told from the first
pub record WithStart (old : Draft) (l : Literal) (new : Draft) : Type 0 where
  pub fluents : new.fluents ≡ old.fluents
  pub actions : new.actions ≡ old.actions
  pub rows : rows new ≡ rows old
  pub goal : new.goal ≡ old.goal
  pub given : (k : Literal) → has new.given k ≡ (same l k || has old.given k)
  pub again : (k : Literal) → has new.again k ≡ ((same l k && has old.given l) || has old.again k)

-- What asking for a start literal leaves: it is there, or there is no such literal.
abbrev pub StartEntered : Draft → ℤ → Result (Unit {0}) EntryFault → Draft → Type 0
StartEntered old number (Ok u) new = (l : Literal) × (number_of l ≡ number) × (l.place < old.fluents) × WithStart old l new
StartEntered old number (Err OutOfRange) new = ((l : Literal) → number_of l ≡ number → l.place < old.fluents → ⊥) × (new ≡ old)
StartEntered old number (Err Full) new = ⊥
