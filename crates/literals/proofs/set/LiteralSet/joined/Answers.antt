use Rattle.literals.proofs.Bits.{joined_has}
use Rattle.literals.proofs.set.LiteralSet.joined.Goals as goal

pub returns : goal.returns
returns c = λ l. joined_has c.args.self c.args.other l
