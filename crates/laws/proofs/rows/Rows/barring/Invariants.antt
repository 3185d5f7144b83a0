use Rattle.std.proofs.Common.{◌≡◌, ◌+◌, drop}
use Rattle.literals.specs.Set.{has}
use Rattle.laws.specs.Code.{rows_of}
use Rattle.laws.specs.Rows.{bars, first_from}
use Rattle.laws.proofs.rows.Rows.barring.Given as goal

abbrev pub invariant-loop-i : goal.invariant-loop-i
invariant-loop-i l =
    first_from (l.i + 1) (bars l.action (has l.s)) (rows_of l.self.literals.now (drop l.i l.self.laws.now))
    ≡ first_from 1 (bars l.action (has l.s)) (rows_of l.self.literals.now l.self.laws.now)
