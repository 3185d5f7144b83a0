-- The number of each refusal of a campaign, and the refusal of asking for each refusal of planning.
use Rattle.std.specs.Prelude.{ℕ}
use Rattle.campaign.specs.declared.fault.CampaignFault.{CampaignFault}
use Rattle.campaign.specs.declared.fault.CampaignFault.TheVariants as faults
use Rattle.planner.specs.declared.fault.PlanFault.{PlanFault}
use Rattle.planner.specs.declared.fault.PlanFault.TheVariants as plans

abbrev pub number : CampaignFault → ℕ
number faults.NotAState = 22
number faults.OrderOut = 31
number faults.NoOrder = 32
number faults.FewStates = 34
number faults.FewActions = 35

abbrev pub of_plan : PlanFault → CampaignFault
of_plan plans.NotAState = faults.NotAState
of_plan plans.FewStates = faults.FewStates
of_plan plans.FewActions = faults.FewActions
