-- What planning over two lent slices leaves in them.
use Rattle.std.specs.Prelude.{◌≡◌, ℕ, ◌+◌, ◌≤◌, List, length, take, drop, Ok, Err, Result}
use Rattle.hall.specs.Hall.{hall_meaning}
use Rattle.hall.specs.declared.plant.Plant.{Plant}
use Rattle.planner.specs.Leads.{NoWay, First}
use Rattle.planner.specs.declared.fault.PlanFault.{PlanFault}
use Rattle.planner.specs.declared.planning.PlanAnswer.{PlanAnswer}
use Rattle.planner.specs.declared.planning.PlanAnswer.TheVariants as answers

-- The places behind a plan of at most r actions are as they were.
pub record Later (r : ℕ) (ss ss' : List Plant) (xs xs' : List ℕ) : Type 0 where
  pub states : drop (r + 1) ss' ≡ drop (r + 1) ss
  pub actions : drop r xs' ≡ drop r xs

-- the first d places hold the best list, and the first d + 1 the states that it passes
abbrev pub Lent : Plant → ℕ → Result PlanAnswer PlanFault → List Plant → List Plant → List ℕ → List ℕ → Type 0
Lent s r (Ok (answers.Steps d)) ss ss' xs xs' =
    (d ≤ length xs') × First hall_meaning s d (take d xs') (take (d + 1) ss') × Later r ss ss' xs xs'
Lent s r (Ok answers.NoWay) ss ss' xs xs' = NoWay hall_meaning s r × Later r ss ss' xs xs'
Lent s r (Err f) ss ss' xs xs' = (ss' ≡ ss) × (xs' ≡ xs)
