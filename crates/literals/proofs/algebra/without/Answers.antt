use Rattle.std.proofs.Common.{◌==◌, ◌-◌, ◌&&◌, ap, ◌∙◌, arith}
use Rattle.std.specs.Int.{bit_at}
use Rattle.literals.proofs.Bits.{and_bit, not_bit}
use Rattle.literals.proofs.algebra.without.Goals as goal

pub returns : goal.returns
returns c = λ i h. and_bit c.args.word (18446744073709551615 - c.args.other) i ∙ ap (λ b. (bit_at c.args.word i == 1) && b) (not_bit c.args.other i (omega (arith, c.ranges.other.fits)) h)
