use Rattle.std.proofs.Common.{◌+◌, sym, ◌∙◌}
use Rattle.std.proofs.lemmas.Result.{err_from_is_err_and}
use Rattle.planner.proofs.Checks.{broken, reaches_next, arrives, placed_ok, placed_err}
use Rattle.planner.proofs.checking.walk.Goals as goal

pub returns-in_err-at : goal.returns-in_err-at
returns-in_err-at g c =
    let m = g.M.Model.meaning c.args.model.now in
    let i = c.loop-i.i in
    let p = err_from_is_err_and c.from_residual.result c.from_residual.ensures.1 in
    let e = placed_err c.step.result (i + 1) c.in_err-at.field-0.0 (sym c.placed.ensures ∙ c.in_err-at.was) in
    rw (p.1, p.2, e.2) (broken m c.args.state c.args.actions.now i c.loop-i.at e.0 c.loop-i-test.true c.loop-i.invariant (sym c.step.ensures ∙ e.1))

pub loop-i-preserved : goal.loop-i-preserved
loop-i-preserved g c =
    let m = g.M.Model.meaning c.args.model.now in
    let t = c.in_ok-at.at in
    let moved = sym c.step.ensures ∙ placed_ok c.step.result (c.loop-i.i + 1) t (sym c.placed.ensures ∙ c.in_ok-at.was) in
    reaches_next m c.args.state c.args.actions.now c.loop-i.i c.loop-i.at t c.loop-i-test.true c.loop-i.invariant moved

pub returns : goal.returns
returns g c = arrives (g.M.Model.meaning c.args.model.now) c.args.state c.args.actions.now c.loop-i.i c.loop-i.at c.loop-i-test.false c.loop-i.invariant
