-- The limits of a network, and what the fields of a draft keep of them.
use Rattle.std.specs.Prelude.{ℕ, ◌+◌, ◌<◌, ◌≤◌, List, [], ◌∷◌, length, Some, None}
use Rattle.literals.specs.declared.literal.Literal.{Literal}
use Rattle.laws.specs.Rows.{Row, impossible, effect, state}
use Rattle.laws.specs.declared.law.Body.{Body}
use Rattle.laws.specs.declared.law.Law.{Law}
use Rattle.laws.specs.declared.law.Law.TheVariants as law

-- each literal is of one of the first n fluents
abbrev pub AllOf : ℕ → List Literal → Type 0
AllOf n [] = Unit {0}
AllOf n (l ∷ ls) = (l.place < n) × AllOf n ls

-- a body has at most 8 literals
abbrev pub BodyFits : ℕ → List Literal → Type 0
BodyFits n body = (length body ≤ 8) × AllOf n body

-- actions are numbered from 1 to their count
abbrev pub IsAction : ℕ → ℕ → Type 0
IsAction actions a = (1 ≤ a) × (a ≤ actions)

-- the row keeps the limits of a network of n fluents
abbrev pub Fits : ℕ → ℕ → Row → Type 0
Fits n actions (impossible a body) = IsAction actions a × BodyFits n body
Fits n actions (effect a h body) = IsAction actions a × (h.place < n) × BodyFits n body
Fits n actions (state None body) = BodyFits n body
Fits n actions (state (Some h) body) = (h.place < n) × BodyFits n body

abbrev pub AllFit : ℕ → ℕ → List Row → Type 0
AllFit n actions [] = Unit {0}
AllFit n actions (r ∷ rows) = Fits n actions r × AllFit n actions rows

abbrev pub body_laid : Law → Body
body_laid (law.Impossible a b) = b
body_laid (law.Effect a h b) = b
body_laid (law.State h b) = b

-- the row that a law is with this body
abbrev pub row_with : Law → List Literal → Row
row_with (law.Impossible a b) body = impossible a body
row_with (law.Effect a h b) body = effect a h body
row_with (law.State h b) body = state h body

-- each body ends within the first k literals
abbrev pub Laid : ℕ → List Law → Type 0
Laid k [] = Unit {0}
Laid k (w ∷ laws) = ((body_laid w).from + (body_laid w).count ≤ k) × Laid k laws
