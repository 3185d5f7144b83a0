use Rattle.std.proofs.Common.{sym, ap, ◌∙◌, rules}
use Rattle.replay.proofs.Lending.{lent}
use Rattle.replay.proofs.carrying.ask_over.Goals as goal

pub returns : goal.returns
returns g c =
    let m = g.M.Model.meaning c.args.campaign.now.model in
    let asked = c.ask.ensures.trails in
    let states = c.new.ensures.places in
    let actions = c.new-2.ensures.places in
    let states_lender = sym (asked.states_kept.lender ∙ ap (λ x. x.ghost_name) states) in
    let actions_lender = sym (asked.actions_kept.lender ∙ ap (λ x. x.ghost_name) actions) in
    record {
      says = search rules;
      leaves = search rules;
      places = lent m _ _ c.new.result c.ask.new.states c.new-2.result c.ask.new.actions c.args.states.now _ c.args.actions.now _ (ap (λ x. x.now) states) (search rules) (ap (λ x. x.now) actions) (search rules) c.ask.result _ c.from.ensures asked;
    }
