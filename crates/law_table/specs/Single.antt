-- What a draft keeps has one proof at most. Assumes nothing.
use mathlib.Core.HLevel.{×_prop, ×₃_prop, Unit-prop}
use Rattle.std.specs.Coded.{le_prop}
use Rattle.std.specs.Prelude.{ℕ, List, [], ◌∷◌, Some, None}
use Rattle.literals.specs.declared.literal.Literal.{Literal}
use Rattle.laws.specs.Rows.{Row, impossible, effect, state}
use Rattle.laws.specs.declared.law.Law.{Law}
use Rattle.law_table.specs.Limits.{AllOf, BodyFits, IsAction, Fits, AllFit, Laid}

pub AllOf-prop : (n : ℕ) (ls : List Literal) → IsProp (AllOf n ls)
AllOf-prop n [] = Unit-prop
AllOf-prop n (l ∷ ls) = ×_prop le_prop (AllOf-prop n ls)

BodyFits-prop : (n : ℕ) (body : List Literal) → IsProp (BodyFits n body)
BodyFits-prop n body = ×_prop le_prop (AllOf-prop n body)

IsAction-prop : (actions a : ℕ) → IsProp (IsAction actions a)
IsAction-prop actions a = ×_prop le_prop le_prop

Fits-prop : (n actions : ℕ) (r : Row) → IsProp (Fits n actions r)
Fits-prop n actions (impossible a body) = ×_prop (IsAction-prop actions a) (BodyFits-prop n body)
Fits-prop n actions (effect a h body) = ×₃_prop (IsAction-prop actions a) le_prop (BodyFits-prop n body)
Fits-prop n actions (state None body) = BodyFits-prop n body
Fits-prop n actions (state (Some h) body) = ×_prop le_prop (BodyFits-prop n body)

pub AllFit-prop : (n actions : ℕ) (rows : List Row) → IsProp (AllFit n actions rows)
AllFit-prop n actions [] = Unit-prop
AllFit-prop n actions (r ∷ rows) = ×_prop (Fits-prop n actions r) (AllFit-prop n actions rows)

pub Laid-prop : (k : ℕ) (laws : List Law) → IsProp (Laid k laws)
Laid-prop k [] = Unit-prop
Laid-prop k (w ∷ laws) = ×_prop le_prop (Laid-prop k laws)
