use Rattle.std.proofs.Common.{◌≡◌, ◌+◌, sym, refl, ap, ◌∙◌, subst}
use Rattle.literals.specs.Set.{has}
use Rattle.laws.specs.Code.{rows_of, run}
use Rattle.laws.specs.Rows.{Closure}
use Rattle.laws.proofs.Closing.{closed_set_closure, runs_next, ended, fewer_missing, alike, unlike}
use Rattle.laws.proofs.rows.Rows.close.Goals as goal

pub loop-grown-init : goal.loop-grown-init
loop-grown-init c = (0, refl)

pub returns-then-eq-clause-exact : goal.returns-then-eq-clause-exact
returns-then-eq-clause-exact c =
    let rows = rows_of c.args.self.now.literals.now c.args.self.now.laws.now in
    let inv = c.loop-grown.invariant in
    let stable : run rows c.loop-grown.closed ≡ c.loop-grown.closed = sym c.pass-grown.ensures ∙ alike c.pass-grown.result c.loop-grown.closed (sym c.if-eq.ensures) in
    inv.1 ∙ ended inv.0 rows c.args.set (subst (λ s. run rows s ≡ s) inv.1 stable)

pub returns-then-eq-clause-closure : goal.returns-then-eq-clause-closure
returns-then-eq-clause-closure c =
    let rows = rows_of c.args.self.now.literals.now c.args.self.now.laws.now in
    subst (λ s. Closure rows (has c.args.set) (has s)) (sym (returns-then-eq-clause-exact c)) (closed_set_closure rows c.args.set)

pub loop-grown-smaller : goal.loop-grown-smaller
loop-grown-smaller c =
    let rows = rows_of c.args.self.now.literals.now c.args.self.now.laws.now in
    let s = c.loop-grown.closed in
    rw c.pass-grown.ensures (fewer_missing rows s (λ e. unlike c.pass-grown.result s (sym c.if-eq.ensures) (c.pass-grown.ensures ∙ e)))

pub loop-grown-preserved : goal.loop-grown-preserved
loop-grown-preserved c =
    let rows = rows_of c.args.self.now.literals.now c.args.self.now.laws.now in
    let inv = c.loop-grown.invariant in
    (inv.0 + 1, c.pass-grown.ensures ∙ ap (run rows) inv.1 ∙ runs_next inv.0 rows c.args.set)
