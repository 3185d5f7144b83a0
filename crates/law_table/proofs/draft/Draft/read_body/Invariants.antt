use Rattle.std.proofs.Common.{◌≡◌, ◌≤◌, length, map, take}
use Rattle.literals.specs.Literal.{number_of}
use Rattle.law_table.specs.Limits.{AllOf}
use Rattle.law_table.proofs.draft.Draft.read_body.Given as goal

abbrev pub invariant-loop-number : goal.invariant-loop-number
invariant-loop-number l =
    (length l.body ≤ 8) × (length l.literals.items ≡ l.number-index) × (map number_of l.literals.items ≡ take l.number-index l.body) × AllOf l.self.fluents l.literals.items
