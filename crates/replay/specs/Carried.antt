-- What carrying out one call answers, and what it leaves of the campaign and of the lent places.
use Rattle.std.specs.Prelude.{ℕ, List}
use Rattle.model.specs.Meaning.{Meaning}
use Rattle.model.specs.Shown.{Shown}
use Rattle.model.specs.declared.Model.{Ghosts}
use Rattle.campaign.specs.Leaves.{Leaves}
use Rattle.campaign.specs.Ledger.{left}
use Rattle.campaign.specs.Says.{Says}
use Rattle.campaign.specs.declared.Campaign.{Campaign}
use Rattle.campaign.specs.declared.answer.Answer.{Answer}
use Rattle.campaign.specs.declared.call.Call.{Call}
use Rattle.replay.specs.Places.{PlacesHold}

-- The call was answered by a on the campaign c, whose model means m and shows v, and c then is c'. The places held ss and xs, and
-- then hold ss' and xs'.
pub record Carried {M S F : Type 0} {G : Ghosts M S F} (m : Meaning S F) (v : Shown S) (c : Campaign M S F G) (call : Call S) (a : Answer) (c' : Campaign M S F G) (ss ss' : List S) (xs xs' : List ℕ) : Type 0 where
  -- the answer is what the contract of the campaign's own function says
  pub says : Says m v c.bound c.ledger call a
  pub leaves : Leaves m c call a c'
  pub places : PlacesHold m c.ledger.stands (left c.bound c.ledger) a ss ss' xs xs'
