use Rattle.std.proofs.Common.{◌≡◌, ◌<◌, true}
use Rattle.literals.specs.declared.literal.Literal.{Literal}
use Rattle.law_table.specs.Start.{starts_once}
use Rattle.law_table.proofs.draft.Draft.unstarted.Given as goal

abbrev pub invariant-loop-place : goal.invariant-loop-place
invariant-loop-place l = (k : Literal) → k.holds ≡ true → k.place < l.place → starts_once l.self k ≡ true
