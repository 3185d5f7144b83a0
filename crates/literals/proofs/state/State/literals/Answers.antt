use Rattle.std.proofs.Common.{◌==◌, ap, ◌∙◌}
use Rattle.std.specs.Int.{bit_at}
use Rattle.literals.proofs.Bits.{literals_has, lowest_bit}
use Rattle.literals.proofs.state.State.literals.Goals as goal

pub returns : goal.returns
returns c = λ l. literals_has c.args.self c.args.fluents _ _ l (λ i h. ap (λ w. bit_at w i == 1) c.lowest-mask.ensures ∙ lowest_bit c.args.fluents i h) c.without.ensures
