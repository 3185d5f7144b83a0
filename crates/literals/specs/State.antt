-- Which literals are true in a state, and which fluents it has.
use Rattle.std.specs.Prelude.{◌≡◌, ℕ, ◌-◌, ◌^◌, ◌<◌, ◌≤◌, min, Bool, ◌==◌}
use Rattle.std.specs.Int.{bit_at}
use Rattle.literals.specs.Literal.{agrees}
use Rattle.literals.specs.declared.literal.Literal.{Literal}
use Rattle.literals.specs.declared.state.State.{State}

abbrev pub is_true : State → Literal → Bool
is_true s l = agrees l.holds (bit_at s.bits l.place == 1)

-- the word whose lowest bits, as many as there are fluents, are set
abbrev pub lowest : ℕ → ℕ
lowest fluents = 2 ^ min fluents 64 - 1

-- no fluent is true beyond the first ones
abbrev pub Fits : State → ℕ → Type 0
Fits s fluents = (i : ℕ) → i < 64 → fluents ≤ i → bit_at s.bits i ≡ 0
