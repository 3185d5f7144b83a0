use Rattle.std.proofs.Common.{◌-◌, arith, rules, length-take}
use Rattle.replay.proofs.Lending.{front_lent}
use Rattle.replay.proofs.carrying.ask_within.Goals as goal

pub returns : goal.returns
returns g c =
    let m = g.M.Model.meaning c.args.campaign.now.model in
    let n = c.min-states_used.result - 0 in
    let k = c.min-actions_used.result - 0 in
    let ss = c.args.states.now in
    let xs = c.args.actions.now in
    record {
      says = search rules;
      leaves = search rules;
      places = front_lent m _ _ _ n k ss _ xs _ (omega (arith, c.ask_over.auto.states, length-take n ss, c.min-states_used.ensures)) (omega (arith, c.ask_over.auto.actions, length-take k xs, c.min-actions_used.ensures)) (omega (arith, c.min-states_used.ensures)) (omega (arith, c.min-actions_used.ensures)) c.ask_over.ensures.places;
    }
