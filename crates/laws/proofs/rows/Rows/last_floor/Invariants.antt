use Rattle.std.proofs.Common.{◌≡◌, ℕ, ◌-◌}
use Rattle.literals.specs.Set.{has}
use Rattle.laws.specs.Code.{rows_of}
use Rattle.laws.specs.Step.{floor}
use Rattle.laws.proofs.Counting.{count}
use Rattle.laws.proofs.rows.Rows.last_floor.Given as goal

abbrev pub invariant-floors : goal.invariant-floors
invariant-floors l =
    (turn : ℕ) × (has l.floor ≡ floor (rows_of l.self.literals.now l.self.laws.now) (has l.effects) (has l.s) turn)

abbrev pub decreases-floors : goal.decreases-floors
decreases-floors l = 128 - count 64 (has l.floor)
