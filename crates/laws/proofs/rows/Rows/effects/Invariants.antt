use Rattle.std.proofs.Common.{◌≡◌, drop}
use Rattle.laws.specs.Code.{rows_of, with_effects}
use Rattle.laws.proofs.rows.Rows.effects.Given as goal

abbrev pub invariant-loop-law : goal.invariant-loop-law
invariant-loop-law l =
    with_effects (rows_of l.self.literals.now (drop l.law-index l.self.laws.now)) l.action l.s l.heads
    ≡ with_effects (rows_of l.self.literals.now l.self.laws.now) l.action l.s l.initial.heads
