use Rattle.std.proofs.Common.{◌≡◌, ℕ}
use Rattle.literals.specs.Set.{has}
use Rattle.laws.specs.Code.{rows_of, runs}
use Rattle.laws.proofs.Closures.{missing}
use Rattle.laws.proofs.rows.Rows.close.Given as goal

abbrev pub invariant-loop-grown : goal.invariant-loop-grown
invariant-loop-grown l = (k : ℕ) × (l.closed ≡ runs k (rows_of l.self.literals.now l.self.laws.now) l.initial.closed)

abbrev pub decreases-loop-grown : goal.decreases-loop-grown
decreases-loop-grown l = missing (rows_of l.self.literals.now l.self.laws.now) (has l.closed)
