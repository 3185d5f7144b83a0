use Rattle.std.proofs.Common.{◌≡◌, min, Ok, sym, subst, subst₂, arith}
use Rattle.planner.specs.Planned.{Planned}
use Rattle.trail.specs.Held.{room}
use Rattle.campaign.specs.Answers.{of_ask}
use Rattle.campaign.specs.Asked.{Asked}
use Rattle.campaign.specs.Says.{Advised}
use Rattle.campaign.proofs.Advising.{steps_advised, steps_asked}
use Rattle.campaign.proofs.asking.advise.Goals as goal

pub returns-in-Steps : goal.returns-in-Steps
returns-in-Steps g c =
    let m = g.M.Model.meaning c.args.model.now in
    let s = c.args.state in
    let d = c.in-Steps.steps in
    let t = c.args.states.now in
    let t' = c.plan.new.states in
    let u = c.args.actions.now in
    let u' = c.plan.new.actions in
    let read : min c.args.most 24 ≡ c.args.most = omega (arith, c.requires) in
    let p = subst₂ (λ r a. Planned m s r t u (Ok a) t' u') read c.in-Steps.is c.in_ok-steps.ensures in
    let said = sym c.head.ensures.value in
    record {
      says = subst (λ a. Advised m s c.args.most (room t) (room u) (of_ask (Ok a))) said (steps_advised m s c.args.most d t t' u u' p);
      trails = subst₂ (λ a v. Asked m s c.args.most t u (Ok a) t' v) said (sym c.head.ensures.same) (steps_asked m s c.args.most d t t' u u' p);
    }
