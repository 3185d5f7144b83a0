-- Which literals a set has.
use Rattle.std.specs.Prelude.{◌≡◌, ℕ, Bool, true, bit_and, bit_or, ◌^◌, ◌==◌, if◌then◌else◌}
use Rattle.std.specs.Int.{bit_at, bit_not, w64}
use Rattle.literals.specs.Literal.{opposite}
use Rattle.literals.specs.declared.literal.Literal.{Literal}
use Rattle.literals.specs.State.{lowest}
use Rattle.literals.specs.declared.set.LiteralSet.{LiteralSet}
use Rattle.literals.specs.declared.state.State.{State}

abbrev pub has : LiteralSet → Literal → Bool
has s l = bit_at (if l.holds then s.holds else s.fails) l.place == 1

-- a set with one literal more
abbrev pub insert : LiteralSet → Literal → LiteralSet
insert s l =
    if l.holds then record { holds = bit_or s.holds (2 ^ l.place); fails = s.fails } else record { holds = s.holds; fails = bit_or s.fails (2 ^ l.place) }

-- no literal is in the set together with its opposite
abbrev pub Consistent : LiteralSet → Type 0
Consistent s = (l : Literal) → has s l ≡ true → has s (opposite l) ≡ true → ⊥

-- each literal of the second set is in the first
abbrev pub Includes : LiteralSet → LiteralSet → Type 0
Includes s t = (l : Literal) → has t l ≡ true → has s l ≡ true
