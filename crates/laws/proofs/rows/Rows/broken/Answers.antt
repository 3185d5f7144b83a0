use Rattle.std.proofs.Common.{◌≡◌, ◌+◌, Some, None, sym, refl, ◌∙◌, rules}
use Rattle.std.proofs.lemmas.List.{drop_more, drop_all}
use Rattle.literals.specs.Set.{has}
use Rattle.laws.specs.Code.{rows_of}
use Rattle.laws.specs.Rows.{breaks, first_from}
use Rattle.laws.proofs.Breaking.{some_not_none, unbroken, kept_unbroken}
use Rattle.laws.proofs.rows.Rows.broken.Goals as goal

pub returns-then-is_broken-clause-kept : goal.returns-then-is_broken-clause-kept
returns-then-is_broken-clause-kept c =
    let rows = rows_of c.args.self.now.literals.now c.args.self.now.laws.now in
    let s = has c.args.s in
    let first : Some (c.loop-i.i + 1) ≡ first_from 1 (breaks s) rows = search (rules, drop_more, drop_all) in
    ((λ e. absurd (some_not_none e)), λ k. absurd (some_not_none (first ∙ kept_unbroken 1 rows s k.0 k.1)))

pub returns-clause-kept : goal.returns-clause-kept
returns-clause-kept c =
    let rows = rows_of c.args.self.now.literals.now c.args.self.now.laws.now in
    let s = has c.args.s in
    let first : None ≡ first_from 1 (breaks s) rows = search (rules, drop_more, drop_all) in
    ((λ _. unbroken 1 rows s (sym first)), λ _. refl)
