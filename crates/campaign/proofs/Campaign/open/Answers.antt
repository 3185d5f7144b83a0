use Rattle.std.proofs.Common.{ap, ◌∙◌, arith}
use Rattle.campaign.proofs.Runs.{sound_idle, promised}
use Rattle.campaign.proofs.Campaign.open.Goals as goal

pub returns-clause-promise : goal.returns-clause-promise
returns-clause-promise g c =
    let m = g.M.Model.meaning c.args.model in
    let law = g.met.M.Model.lawful c.args.model in
    let most = c.min-most.result in
    λ v es f. promised m law v most _ (sound_idle m most c.start.result 0 (omega arith) (ap m.is_state c.start.ensures ∙ law.start_state)) es f
