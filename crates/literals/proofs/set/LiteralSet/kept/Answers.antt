use Rattle.literals.proofs.Bits.{kept_has}
use Rattle.literals.proofs.set.LiteralSet.kept.Goals as goal

pub returns : goal.returns
returns c = λ l. kept_has c.args.self c.args.against _ _ l c.without.ensures c.without-2.ensures
