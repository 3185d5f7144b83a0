-- What each call of a campaign answers, by the ledger at its entry. b is the bound as it is read.
use Rattle.std.specs.Prelude.{◌≡◌, ℕ, ◌+◌, ◌<◌, ◌≤◌, true, false, Some, None}
use Rattle.model.specs.Meaning.{Meaning}
use Rattle.model.specs.Shown.{Shown}
use Rattle.planner.specs.Leads.{NoWay, Distance, Begins}
use Rattle.campaign.specs.Ledger.{left}
use Rattle.campaign.specs.declared.answer.Answer.{Answer}
use Rattle.campaign.specs.declared.answer.Answer.TheVariants as answers
use Rattle.campaign.specs.declared.call.Call.{Call}
use Rattle.campaign.specs.declared.call.Call.TheVariants as calls
use Rattle.campaign.specs.declared.fault.CampaignFault.TheVariants as faults
use Rattle.campaign.specs.declared.ledger.Ledger.{Ledger}
use Rattle.campaign.specs.declared.order.Order.{Order}

-- The answer is an order of d steps, for the lowest action that begins a list that short.
pub record Ordered {S F : Type 0} (m : Meaning S F) (s : S) (d : ℕ) (a : Answer) : Type 0 where
  pub action : ℕ
  pub said : a ≡ answers.Order (record { action = action; steps = d })
  pub begins : Begins m s d action
  pub lowest : (other : ℕ) → Begins m s d other → action ≤ other

-- The answer tells d, the fewest steps that lead to the goal: by 'reached' where there is none to take, else by an order.
pub record Told {S F : Type 0} (m : Meaning S F) (s : S) (r : ℕ) (a : Answer) : Type 0 where
  pub d : ℕ
  pub within : d ≤ r
  pub distance : Distance m s d
  pub met : d ≡ 0 → a ≡ answers.Reached
  pub unmet : 0 < d → Ordered m s d a

-- What asking answers from s with r steps left, where it is not refused.
pub record Answered {S F : Type 0} (m : Meaning S F) (s : S) (r : ℕ) (a : Answer) : Type 0 where
  -- 'no way' is true when said, and said when true
  pub true_when_said : a ≡ answers.NoWay → NoWay m s r
  pub said_when_true : NoWay m s r → a ≡ answers.NoWay
  pub otherwise : (NoWay m s r → ⊥) → Told m s r a

-- Asking from s with r steps left, over trails with room for so many states and actions: its refusals in their order, and
-- else its answer.
pub record Advised {S F : Type 0} (m : Meaning S F) (s : S) (r states actions : ℕ) (a : Answer) : Type 0 where
  pub no_state : m.is_state s ≡ false → a ≡ answers.Refused faults.NotAState
  pub few_states : m.is_state s ≡ true → states < r + 1 → a ≡ answers.Refused faults.FewStates
  pub few_actions : m.is_state s ≡ true → r + 1 ≤ states → actions < r → a ≡ answers.Refused faults.FewActions
  pub advice : m.is_state s ≡ true → r + 1 ≤ states → r ≤ actions → Answered m s r a

-- Asking: refused with an order out, before all else.
pub record AskSays {S F : Type 0} (m : Meaning S F) (b : ℕ) (l : Ledger S) (states actions : ℕ) (a : Answer) : Type 0 where
  pub out : (o : Order) → l.out ≡ Some o → a ≡ answers.Refused faults.OrderOut
  pub none : l.out ≡ None → Advised m l.stands (left b l) states actions a

-- Done and failed alike: refused with no order out, else the reports with this one.
pub record ReportSays {S : Type 0} (l : Ledger S) (a : Answer) : Type 0 where
  pub none : l.out ≡ None → a ≡ answers.Refused faults.NoOrder
  pub accepted : (o : Order) → l.out ≡ Some o → a ≡ answers.Accepted (l.reports + 1)

-- Finding: refused with an order out, then for a value that is not a state; else the reports, which stay.
pub record FindSays {S F : Type 0} (m : Meaning S F) (l : Ledger S) (s : S) (a : Answer) : Type 0 where
  pub out : (o : Order) → l.out ≡ Some o → a ≡ answers.Refused faults.OrderOut
  pub no_state : l.out ≡ None → m.is_state s ≡ false → a ≡ answers.Refused faults.NotAState
  pub accepted : l.out ≡ None → m.is_state s ≡ true → a ≡ answers.Accepted l.reports

-- Showing: the number at a place, for where the plant stands.
abbrev pub ShowSays : {S : Type 0} → Shown S → Ledger S → ℕ → Answer → Type 0
ShowSays v l place a = a ≡ answers.Number (v.number l.stands place)

-- any call
abbrev pub Says : {S F : Type 0} → Meaning S F → Shown S → ℕ → Ledger S → Call S → Answer → Type 0
Says m v b l (calls.Ask x y) a = AskSays m b l x y a
Says m v b l calls.Done a = ReportSays l a
Says m v b l calls.Failed a = ReportSays l a
Says m v b l (calls.Find s) a = FindSays m l s a
Says m v b l (calls.Show p) a = ShowSays v l p a
