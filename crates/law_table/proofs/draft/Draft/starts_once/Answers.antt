use Rattle.std.proofs.Common.{rules, ◌≡◌, ◌+◌, pos, negsuc, ap, ◌∙◌}
use Rattle.std.specs.Prelude.{if◌then◌else◌}
use Rattle.std.proofs.lemmas.Int.{wraps}
use Rattle.literals.specs.Literal.{number_of}
use Rattle.law_table.proofs.draft.Draft.starts_once.Goals as goal

pub returns-in-Err : goal.returns-in-Err
returns-in-Err c l holds is =
    let number : number_of l ≡ pos c.args.fluent = ap (λ b. if b then pos (l.place + 1) else negsuc l.place) holds ∙ ap pos is in
    absurd (c.in-Err.ensures l (search (rules, wraps)))
