use Rattle.std.proofs.Common.{Ok, subst₂}
use Rattle.trail.specs.Held.{room}
use Rattle.campaign.specs.Answers.{of_ask}
use Rattle.campaign.specs.Says.{Advised}
use Rattle.campaign.proofs.Kept.{state, within}
use Rattle.campaign.proofs.Runs.{due_when_advised, sound_ordered}
use Rattle.campaign.proofs.Campaign.ask.Goals as goal

pub invariant_of-self-clause-sound : goal.invariant_of-self-clause-sound
invariant_of-self-clause-sound g c =
    let held = c.args.self.now in
    let m = g.M.Model.meaning held.model in
    let s = held.ledger.stands in
    let order = c.in-Order.order in
    let here = state held.sound in
    let advised = subst₂ (λ r a. Advised m s r (room c.args.states.now) (room c.args.actions.now) (of_ask (Ok a))) c.left-left.ensures c.in-Order.is c.in_ok-advice.ensures.says in
    ∣ sound_ordered m held.bound s held.ledger.reports order (within held.sound) here (due_when_advised m s _ _ _ order here advised) ∣₁
