use Rattle.std.proofs.Common.{◌≡◌, drop}
use Rattle.laws.specs.Code.{rows_of, run}
use Rattle.laws.proofs.rows.Rows.pass.Given as goal

abbrev pub invariant-loop-law : goal.invariant-loop-law
invariant-loop-law l =
    run (rows_of l.self.literals.now (drop l.law-index l.self.laws.now)) l.grown ≡ run (rows_of l.self.literals.now l.self.laws.now) l.initial.grown
