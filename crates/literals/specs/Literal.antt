-- What a literal says, its number, and which literals say the same.
use Rattle.std.specs.Prelude.{ℤ, pos, negsuc, ◌≡◌, ◌+◌, Bool, true, false, not, ◌&&◌, ◌==◌, if◌then◌else◌, Result, MatchResult}
use Rattle.literals.specs.declared.literal.Literal.{Literal}
use Rattle.literals.specs.declared.literal.NoLiteral.{NoLiteral}

-- the literal that says the other of the same fluent
abbrev pub opposite : Literal → Literal
opposite l = record { place = l.place; holds = not l.holds; within = l.within }

-- the truth value that a literal gives its fluent, where b is what the fluent has
abbrev pub agrees : Bool → Bool → Bool
agrees true b = b
agrees false b = not b

-- whether two literals are the same
abbrev pub same : Literal → Literal → Bool
same k l = (k.place == l.place) && agrees k.holds l.holds

-- the literal as a number: f where fluent f is true, -f where it is false; negsuc n is -(n + 1)
abbrev pub number_of : Literal → ℤ
number_of l = if l.holds then pos (l.place + 1) else negsuc l.place

-- the result is the literal with this number, or an error where no literal has it
abbrev pub Reads : ℤ → Result Literal NoLiteral → Type 0
Reads n r = MatchResult r (λ l. number_of l ≡ n) (λ e. (l : Literal) → number_of l ≡ n → ⊥)
