-- What a call leaves of a campaign.
use Rattle.std.specs.Prelude.{◌≡◌}
use Rattle.model.specs.Meaning.{Meaning}
use Rattle.model.specs.declared.Model.{Ghosts}
use Rattle.campaign.specs.Ledger.{reckon}
use Rattle.campaign.specs.declared.Campaign.{Campaign}
use Rattle.campaign.specs.declared.answer.Answer.{Answer}
use Rattle.campaign.specs.declared.answer.Answer.TheVariants as answers
use Rattle.campaign.specs.declared.call.Call.{Call}
use Rattle.campaign.specs.declared.fault.CampaignFault.{CampaignFault}

-- The campaign c, whose model means m, is c' after the call, which was answered by a.
pub record Leaves {M S F : Type 0} {G : Ghosts M S F} (m : Meaning S F) (c : Campaign M S F G) (call : Call S) (a : Answer) (c' : Campaign M S F G) : Type 0 where
  pub ledger : c'.ledger ≡ reckon m c.ledger call a
  pub model : c'.model ≡ c.model
  pub bound : c'.bound ≡ c.bound
  -- whatever is refused changes nothing
  pub refused : (f : CampaignFault) → a ≡ answers.Refused f → c' ≡ c
