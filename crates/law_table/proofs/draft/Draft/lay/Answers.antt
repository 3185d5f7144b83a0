use Rattle.std.proofs.Common.{rules}
use Rattle.law_table.proofs.Laying.{laid_pushed, rows_pushed, fit_pushed, rows_count, body_few}
use Rattle.law_table.proofs.draft.Draft.lay.Goals as goal

pub returns-then-is_full : goal.returns-then-is_full
returns-then-is_full c = search (rules, rows_count)

pub invariant_of-self-in-Ok-clause-room : goal.invariant_of-self-in-Ok-clause-room
invariant_of-self-in-Ok-clause-room c = search (rules, body_few)

pub invariant_of-self-in-Ok-clause-laid : goal.invariant_of-self-in-Ok-clause-laid
invariant_of-self-in-Ok-clause-laid c =
    laid_pushed c.args.self.now.literals.items c.args.body.now _ c.args.self.now.laws.items _ c.args.law (search rules) (search rules) c.requires.from c.requires.count c.args.self.now.laid

pub invariant_of-self-in-Ok-clause-rows_fit : goal.invariant_of-self-in-Ok-clause-rows_fit
invariant_of-self-in-Ok-clause-rows_fit c =
    let d = c.args.self.now in
    fit_pushed d.literals.items c.args.body.now _ d.laws.items _ c.args.law (search rules) (search rules) c.requires.from c.requires.count d.fluents d.actions d.laid d.rows_fit c.requires.fits

pub returns-in-Ok : goal.returns-in-Ok
returns-in-Ok c = search (rules, rows_count, rows_pushed)
