use Rattle.std.proofs.Common.{sym, ap, ◌∙◌, rules}
use Rattle.own_plant.proofs.Lending.{lent}
use Rattle.own_plant.proofs.plan_over.Goals as goal

pub returns : goal.returns
returns c =
    let states_lender = sym (c.plan.ensures.states_kept.lender ∙ ap (λ x. x.ghost_name) c.new.ensures.places) in
    let actions_lender = sym (c.plan.ensures.actions_kept.lender ∙ ap (λ x. x.ghost_name) c.new-2.ensures.places) in
    lent c.args.plant _ c.new.result c.plan.new.states c.new-2.result c.plan.new.actions _ _ _ _ (ap (λ x. x.now) c.new.ensures.places) (search rules) (ap (λ x. x.now) c.new-2.ensures.places) (search rules) c.plan.result c.plan.ensures
