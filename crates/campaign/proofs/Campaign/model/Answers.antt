use Rattle.campaign.proofs.Kept.{promise}
use Rattle.campaign.proofs.Campaign.model.Goals as goal

pub returns-clause-promise : goal.returns-clause-promise
returns-clause-promise g c = promise c.args.self.now.sound (g.met.M.Model.lawful c.args.self.now.model)
