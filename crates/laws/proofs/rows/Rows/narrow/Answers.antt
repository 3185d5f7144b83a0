use Rattle.std.proofs.Common.{◌≡◌, sym, ap, ◌∙◌, subst}
use Rattle.literals.specs.Set.{has}
use Rattle.laws.specs.Code.{rows_of}
use Rattle.laws.specs.Rows.{Unforbidden, effects}
use Rattle.laws.specs.Step.{LastFloor, Allows, Consistent, against}
use Rattle.laws.proofs.Closures.{true_not_false}
use Rattle.laws.proofs.Effects.{unforbidden_from, unforbidden_not}
use Rattle.laws.proofs.Results.{nothing_allowed, allowed_here, allowed_only}
use Rattle.laws.proofs.rows.Rows.narrow.Goals as goal
use Rattle.laws.proofs.rows.Rows.narrow.Goals.{then-not-is_consistent-via-then-not-is_consistent, then-not-is_consistent-via-else-not-is_consistent+then-forbids}

pub returns-then-not-is_consistent-clause-narrowed : goal.returns-then-not-is_consistent-clause-narrowed
returns-then-not-is_consistent-clause-narrowed c =
    let rows = rows_of c.args.self.now.literals.now c.args.self.now.laws.now in
    let F = has c.last_floor-floor.result in
    let s = has c.args.s in
    let is_last = subst (λ E. LastFloor rows E s F) c.effects-effects.ensures c.last_floor-floor.ensures in
    let says : Consistent F → Unforbidden rows F → ⊥ =
    elim c.then-not-is_consistent.branch [
      | then-not-is_consistent-via-then-not-is_consistent w ↦ λ k u. true_not_false (c.is_consistent.ensures.1 k) w.if-not-is_consistent.true
      | then-not-is_consistent-via-else-not-is_consistent+then-forbids w ↦ λ k u. unforbidden_not rows F (sym w.forbids.ensures ∙ w.if-forbids.true) u
    ] in
    record { last = F; is_last = is_last; says = says }

pub returns-then-not-is_consistent-clause-of_b : goal.returns-then-not-is_consistent-clause-of_b
returns-then-not-is_consistent-clause-of_b c =
    let rows = rows_of c.args.self.now.literals.now c.args.self.now.laws.now in
    let answer = returns-then-not-is_consistent-clause-narrowed c in
    λ n total heads t allowed. nothing_allowed n rows c.args.action (has c.args.s) total answer.last answer.is_last answer.says t allowed

pub returns-then-not-is_consistent-2-clause-narrowed : goal.returns-then-not-is_consistent-2-clause-narrowed
returns-then-not-is_consistent-2-clause-narrowed c =
    let rows = rows_of c.args.self.now.literals.now c.args.self.now.laws.now in
    let F = has c.last_floor-floor.result in
    let s = has c.args.s in
    let e = c.effects-effects.ensures in
    let made : has c.against-ceiling.result ≡ against rows (effects rows c.args.action s) s F = c.against-ceiling.ensures ∙ ap (λ E. against rows E s F) e in
    record {
      last = F;
      is_last = subst (λ E. LastFloor rows E s F) e c.last_floor-floor.ensures;
      says = (
        c.is_consistent.ensures.0 c.if-not-is_consistent.false,
        unforbidden_from rows F (sym c.forbids.ensures ∙ c.if-forbids.false),
        λ k. true_not_false (c.is_consistent-2.ensures.1 (subst Consistent (sym made) k)) c.if-not-is_consistent-2.true,
      );
    }

pub returns-clause-narrowed : goal.returns-clause-narrowed
returns-clause-narrowed c =
    let rows = rows_of c.args.self.now.literals.now c.args.self.now.laws.now in
    let F = has c.last_floor-floor.result in
    let s = has c.args.s in
    let e = c.effects-effects.ensures in
    let made : has c.against-ceiling.result ≡ against rows (effects rows c.args.action s) s F = c.against-ceiling.ensures ∙ ap (λ E. against rows E s F) e in
    record {
      last = F;
      is_last = subst (λ E. LastFloor rows E s F) e c.last_floor-floor.ensures;
      says = (
        c.is_consistent.ensures.0 c.if-not-is_consistent.false,
        unforbidden_from rows F (sym c.forbids.ensures ∙ c.if-forbids.false),
        subst Consistent made (c.is_consistent-2.ensures.0 c.if-not-is_consistent-2.false),
        made,
      );
    }

pub returns-clause-of_b : goal.returns-clause-of_b
returns-clause-of_b c =
    let rows = rows_of c.args.self.now.literals.now c.args.self.now.laws.now in
    let s = has c.args.s in
    let answer = returns-clause-narrowed c in
    λ n total heads.
    let made = answer.says.3 in (
      subst (Allows n rows c.args.action s) (sym made) (allowed_here n rows c.args.action s total answer.last answer.is_last heads answer.says.2 answer.says.1),
      λ t allowed. allowed_only n rows c.args.action s total answer.last answer.is_last heads answer.says.2 answer.says.1 t allowed ∙ sym made,
    )
