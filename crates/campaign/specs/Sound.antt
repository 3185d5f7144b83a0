-- What every campaign keeps true of its ledger. b is the bound as it is read.
use Rattle.std.specs.Prelude.{◌≡◌, ℕ, ◌<◌, ◌≤◌, true, IfSome}
use Rattle.model.specs.Meaning.{Meaning}
use Rattle.planner.specs.Leads.{Distance, Begins}
use Rattle.campaign.specs.Ledger.{left}
use Rattle.campaign.specs.declared.ledger.Ledger.{Ledger}
use Rattle.campaign.specs.declared.order.Order.{Order}

-- An order that is right where the plant stands at s with r steps left: its action begins a list of as many actions as it has
-- steps that leads to the goal, no shorter list does, and that many steps are left.
pub record Due {S F : Type 0} (m : Meaning S F) (s : S) (r : ℕ) (o : Order) : Type 0 where
  pub positive : 0 < o.steps
  pub within : o.steps ≤ r
  pub distance : Distance m s o.steps
  pub begins : Begins m s o.steps o.action

-- The plant stands at a state, no more reports were accepted than the bound, and the order out, if there is one, is right where the
-- plant stands.
pub record Sound {S F : Type 0} (m : Meaning S F) (b : ℕ) (l : Ledger S) : Type 0 where
  pub state : m.is_state l.stands ≡ true
  pub within : l.reports ≤ b
  pub order : IfSome l.out (Due m l.stands (left b l))
