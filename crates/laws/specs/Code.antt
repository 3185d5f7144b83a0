-- The rows as they are written, and the closure as it is worked out on sets in words. Theorems on them stand in Closing.
use Rattle.std.specs.Prelude.{ℕ, zero, suc, Bool, false, not, ◌&&◌, ◌==◌, List, [], ◌∷◌, length, take, drop, Some, None, if◌then◌else◌}
use Rattle.literals.specs.Set.{has, insert}
use Rattle.literals.specs.declared.literal.Literal.{Literal}
use Rattle.literals.specs.declared.set.LiteralSet.{LiteralSet}
use Rattle.laws.specs.Rows.{Row, impossible, effect, state, lies_in}
use Rattle.laws.specs.declared.law.Body.{Body}
use Rattle.laws.specs.declared.law.Law.{Law}
use Rattle.laws.specs.declared.law.Law.TheVariants as law

-- a row that says nothing: no action has the number 0
abbrev pub no_row : Law
no_row = law.Impossible 0 (record { from = 0; count = 0 })

-- the literals of a body, of those that lie beside the rows
abbrev pub body_of : List Literal → Body → List Literal
body_of ls b = take b.count (drop b.from ls)

-- a row with its body
abbrev pub row_of : List Literal → Law → Row
row_of ls (law.Impossible a b) = impossible a (body_of ls b)
row_of ls (law.Effect a h b) = effect a h (body_of ls b)
row_of ls (law.State h b) = state h (body_of ls b)

abbrev pub rows_of : List Literal → List Law → List Row
rows_of ls [] = []
rows_of ls (w ∷ laws) = row_of ls w ∷ rows_of ls laws

-- the set with the head of a state law whose body lies in it
abbrev pub grown : Row → LiteralSet → LiteralSet
grown (impossible a body) s = s
grown (effect a h body) s = s
grown (state None body) s = s
grown (state (Some h) body) s = if lies_in body (has s) && not (has s h) then insert s h else s

-- one pass over the rows, from the first on
abbrev pub run : List Row → LiteralSet → LiteralSet
run [] s = s
run (r ∷ rows) s = run rows (grown r s)

-- so many passes
abbrev pub runs : ℕ → List Row → LiteralSet → LiteralSet
runs zero rows s = s
runs (suc k) rows s = runs k rows (run rows s)

-- as many passes as there are rows
abbrev pub closed_set : List Row → LiteralSet → LiteralSet
closed_set rows s = runs (length rows) rows s

-- the set with the head of an effect row of the action whose body is true in s
abbrev pub with_effect : Row → ℕ → LiteralSet → LiteralSet → LiteralSet
with_effect (impossible b body) a s X = X
with_effect (effect b h body) a s X = if b == a && lies_in body (has s) then insert X h else X
with_effect (state h body) a s X = X

abbrev pub with_effects : List Row → ℕ → LiteralSet → LiteralSet → LiteralSet
with_effects [] a s X = X
with_effects (r ∷ rows) a s X = with_effects rows a s (with_effect r a s X)

-- whether a row forbids the set
abbrev pub forbids_row : Row → LiteralSet → Bool
forbids_row (impossible b body) X = false
forbids_row (effect b h body) X = false
forbids_row (state (Some h) body) X = false
forbids_row (state None body) X = lies_in body (has X)
