-- The answers of a log.
use Rattle.std.specs.Prelude.{List, map}
use Rattle.campaign.specs.declared.answer.Answer.{Answer}
use Rattle.campaign.specs.declared.call.Event.{Event}

abbrev pub answers : {S : Type 0} → List (Event S) → List Answer
answers log = map (λ e. e.answer) log
