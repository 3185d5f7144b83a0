use Rattle.std.proofs.Common.{rules}
use Rattle.std.proofs.lemmas.Int.{wraps}
use Rattle.law_table.proofs.Numbers.{read_more, all_more, unread_body}
use Rattle.law_table.proofs.draft.Draft.read_body.Goals as goal

pub returns-in_err-read : goal.returns-in_err-read
returns-in_err-read c =
    unread_body c.args.self.now.fluents c.args.body.now c.loop-number.number-index c.read.result c.in_err-read.field-0.0 c.from_residual.result
    c.loop-number-test.true (search (rules, wraps)) c.in_err-read.was (search rules)

pub loop-number-preserved : goal.loop-number-preserved
loop-number-preserved c = search (rules, wraps, read_more, all_more)
