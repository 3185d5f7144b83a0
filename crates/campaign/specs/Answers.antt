-- What each call answers as an `Answer`, the type that serves every call.
use Rattle.std.specs.Prelude.{ℕ, Ok, Err, Result}
use Rattle.campaign.specs.declared.answer.Advice.{Advice}
use Rattle.campaign.specs.declared.answer.Advice.TheVariants as advice
use Rattle.campaign.specs.declared.answer.Answer.{Answer}
use Rattle.campaign.specs.declared.answer.Answer.TheVariants as answers
use Rattle.campaign.specs.declared.fault.CampaignFault.{CampaignFault}

abbrev pub of_ask : Result Advice CampaignFault → Answer
of_ask (Ok (advice.Order o)) = answers.Order o
of_ask (Ok advice.Reached) = answers.Reached
of_ask (Ok advice.NoWay) = answers.NoWay
of_ask (Err f) = answers.Refused f

abbrev pub of_report : Result ℕ CampaignFault → Answer
of_report (Ok n) = answers.Accepted n
of_report (Err f) = answers.Refused f
