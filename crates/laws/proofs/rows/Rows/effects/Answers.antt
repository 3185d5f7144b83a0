use Rattle.std.proofs.Common.{◌≡◌, ap, ◌∙◌, subst, arith}
use Rattle.std.proofs.lemmas.List.{drop_all}
use Rattle.literals.specs.Set.{has}
use Rattle.laws.specs.Code.{rows_of, with_effects}
use Rattle.laws.proofs.Effects.{effects_are}
use Rattle.laws.proofs.rows.Rows.effects.Goals as goal

pub returns : goal.returns
returns c =
    let ls = c.args.self.now.literals.now in
    let laws = c.args.self.now.laws.now in
    let heads = c.loop-law.heads in
    let none = c.new-heads.result in
    let worked : heads ≡ with_effects (rows_of ls laws) c.args.action c.args.s none =
    subst (λ ws. with_effects (rows_of ls ws) c.args.action c.args.s heads ≡ with_effects (rows_of ls laws) c.args.action c.args.s none) (drop_all c.loop-law.law-index laws (omega (arith, c.loop-law-test.false))) c.loop-law.invariant in
    ap has worked ∙ effects_are (rows_of ls laws) c.args.action c.args.s none c.new-heads.ensures
