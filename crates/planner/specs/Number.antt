-- The number of each refusal of checking and planning, and what is told beside it.
use Rattle.std.specs.Prelude.{ℕ}
use Rattle.planner.specs.declared.fault.CheckFault.{CheckFault}
use Rattle.planner.specs.declared.fault.CheckFault.TheVariants as checks
use Rattle.planner.specs.declared.fault.PlanFault.{PlanFault}
use Rattle.planner.specs.declared.fault.PlanFault.TheVariants as plans

-- told gives the number of the model's own cause
abbrev pub check_number : {F : Type 0} → (F → ℕ) → CheckFault F → ℕ
check_number told checks.NotAState = 22
check_number told (checks.Step place cause) = told cause
check_number told (checks.Short length) = 41

-- the place of the action, 0 for the first value, and the length of a list that stops short
abbrev pub check_added : {F : Type 0} → CheckFault F → ℕ
check_added checks.NotAState = 0
check_added (checks.Step place cause) = place
check_added (checks.Short length) = length

abbrev pub plan_number : PlanFault → ℕ
plan_number plans.NotAState = 22
plan_number plans.FewStates = 34
plan_number plans.FewActions = 35
