-- The rows of a network with their bodies, sets of literals, and what the action language B says of a step.
use Rattle.std.specs.Prelude.{◌≡◌, ℕ, zero, suc, Bool, true, false, not, ◌+◌, ◌&&◌, ◌||◌, ◌==◌, List, [], ◌∷◌, length, Some, None, Option, if◌then◌else◌}
use Rattle.std.specs.List.{list_all}
use Rattle.literals.specs.Literal.{same}
use Rattle.literals.specs.declared.literal.Literal.{Literal}

-- a set of literals
abbrev pub Literals : Type 0
Literals = Literal → Bool

-- a row: what an action is barred by, what it makes true, or what holds in each state
pub data Row : Type 0 where
  impossible : ℕ → List Literal → Row
  effect : ℕ → Literal → List Literal → Row
  state : Option Literal → List Literal → Row

-- every literal of the set is in the other
abbrev pub Within : Literals → Literals → Type 0
Within X Y = (l : Literal) → X l ≡ true → Y l ≡ true

-- whether a body lies in a set, that is, each of its literals does
abbrev pub lies_in : List Literal → Literals → Bool
lies_in body X = list_all X body

-- the set has the head of each state law whose body lies in it
abbrev pub Closed : List Row → Literals → Type 0
Closed [] X = Unit {0}
Closed (impossible a body ∷ rows) X = Closed rows X
Closed (effect a h body ∷ rows) X = Closed rows X
Closed (state (Some h) body ∷ rows) X = (lies_in body X ≡ true → X h ≡ true) × Closed rows X
Closed (state None body ∷ rows) X = Closed rows X

-- C is the closure of X: the least set that contains X and is closed
pub record Closure (rows : List Row) (X C : Literals) : Type 0 where
  pub contains : Within X C
  pub closed : Closed rows C
  pub least : (Y : Literals) → Within X Y → Closed rows Y → Within C Y

-- the heads of the action's effect rows whose bodies are true in s
abbrev pub effects : List Row → ℕ → Literals → Literals
effects [] a s l = false
effects (impossible b body ∷ rows) a s l = effects rows a s l
effects (effect b h body ∷ rows) a s l = (b == a && (lies_in body s && same h l)) || effects rows a s l
effects (state h body ∷ rows) a s l = effects rows a s l

-- no body that must never be true is
abbrev pub Unforbidden : List Row → Literals → Type 0
Unforbidden [] s = Unit {0}
Unforbidden (impossible b body ∷ rows) s = Unforbidden rows s
Unforbidden (effect b h body ∷ rows) s = Unforbidden rows s
Unforbidden (state (Some h) body ∷ rows) s = Unforbidden rows s
Unforbidden (state None body ∷ rows) s = (lies_in body s ≡ false) × Unforbidden rows s

-- ---- the closure, worked out

-- the heads that one pass over the rows adds to a set
abbrev pub added : List Row → Literals → Literals
added [] X l = false
added (impossible a body ∷ rows) X l = added rows X l
added (effect a h body ∷ rows) X l = added rows X l
added (state (Some h) body ∷ rows) X l = (lies_in body X && same h l) || added rows X l
added (state None body ∷ rows) X l = added rows X l

abbrev pub pass : List Row → Literals → Literals
pass rows X l = X l || added rows X l

-- so many passes
abbrev pub passes : ℕ → List Row → Literals → Literals
passes zero rows X = X
passes (suc k) rows X = passes k rows (pass rows X)

-- as many passes as there are rows; each that is not the last adds the head of a row
abbrev pub closure : List Row → Literals → Literals
closure rows X = passes (length rows) rows X

-- whether a body that must never be true lies in a set
abbrev pub forbids : List Row → Literals → Bool
forbids [] X = false
forbids (impossible b body ∷ rows) X = forbids rows X
forbids (effect b h body ∷ rows) X = forbids rows X
forbids (state (Some h) body ∷ rows) X = forbids rows X
forbids (state None body ∷ rows) X = lies_in body X || forbids rows X

-- ---- the first row of a kind

-- whether a row bars the action in s
abbrev pub bars : ℕ → Literals → Row → Bool
bars a s (impossible b body) = b == a && lies_in body s
bars a s (effect b h body) = false
bars a s (state h body) = false

-- whether s breaks a row: its body is true, and it has no head or one that is not
abbrev pub breaks : Literals → Row → Bool
breaks s (impossible b body) = false
breaks s (effect b h body) = false
breaks s (state None body) = lies_in body s
breaks s (state (Some h) body) = lies_in body s && not (s h)

-- the number of the first row of which p is true, where the first row of all has the number n
abbrev pub first_from : ℕ → (Row → Bool) → List Row → Option ℕ
first_from n p [] = None
first_from n p (r ∷ rows) = if p r then Some n else first_from (n + 1) p rows
