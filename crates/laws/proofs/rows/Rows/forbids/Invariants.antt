use Rattle.std.proofs.Common.{◌≡◌, drop}
use Rattle.literals.specs.Set.{has}
use Rattle.laws.specs.Code.{rows_of}
use Rattle.laws.specs.Rows.{forbids}
use Rattle.laws.proofs.rows.Rows.forbids.Given as goal

abbrev pub invariant-loop-law : goal.invariant-loop-law
invariant-loop-law l =
    forbids (rows_of l.self.literals.now (drop l.law-index l.self.laws.now)) (has l.set) ≡ forbids (rows_of l.self.literals.now l.self.laws.now) (has l.set)
