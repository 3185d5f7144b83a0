use Rattle.std.proofs.Common.{◌≡◌, ◌∙◌, ◌||◌, ap, subst}
use Rattle.std.proofs.Math.Path.{fun_ext}
use Rattle.literals.specs.Set.{has}
use Rattle.laws.specs.Code.{rows_of}
use Rattle.laws.specs.Rows.{Closure, closure}
use Rattle.laws.specs.Step.{joined, kept}
use Rattle.laws.proofs.Closures.{closure_is}
use Rattle.laws.proofs.Effects.{same_closure}
use Rattle.laws.proofs.rows.Rows.against.Goals as goal

pub returns : goal.returns
returns c =
    let rows = rows_of c.args.self.now.literals.now c.args.self.now.laws.now in
    let what = joined (has c.args.effects) (kept (has c.args.s) (has c.args.set)) in
    let same : has c.joined.result ≡ what = fun_ext (λ l. c.joined.ensures l ∙ ap (λ b. has c.args.effects l || b) (c.kept.ensures l)) in
    same_closure rows what (has c.close.result) (closure rows what) (subst (λ X. Closure rows X (has c.close.result)) same c.close.ensures.closure) (closure_is rows what)
