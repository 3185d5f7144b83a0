-- The ledger of a campaign, reckoned from the model's meaning, the calls and asking's answers alone.
use Rattle.std.specs.Prelude.{ℕ, ◌+◌, ◌-◌, cond, List, [], ◌∷◌, Some, None}
use Rattle.std.specs.Result.{result_unwrap_or}
use Rattle.model.specs.Meaning.{Meaning}
use Rattle.campaign.specs.declared.answer.Answer.{Answer}
use Rattle.campaign.specs.declared.answer.Answer.TheVariants as answers
use Rattle.campaign.specs.declared.call.Call.{Call}
use Rattle.campaign.specs.declared.call.Call.TheVariants as calls
use Rattle.campaign.specs.declared.call.Event.{Event}
use Rattle.campaign.specs.declared.ledger.Ledger.{Ledger}

-- the plant stands at the model's start, with no report and no order
abbrev pub opening : {S F : Type 0} → Meaning S F → Ledger S
opening m = record { stands = m.start; reports = 0; out = None }

-- a report is added and the order is closed; the plant then stands at s
abbrev pub reported : {S : Type 0} → Ledger S → S → Ledger S
reported l s = record { stands = s; reports = l.reports + 1; out = None }

-- an order that asking answers is out; any other answer of asking changes nothing
abbrev pub with_order : {S : Type 0} → Ledger S → Answer → Ledger S
with_order l (answers.Order o) = record { stands = l.stands; reports = l.reports; out = Some o }
with_order l answers.Reached = l
with_order l answers.NoWay = l
with_order l (answers.Accepted n) = l
with_order l (answers.Number n) = l
with_order l (answers.Refused f) = l

-- The ledger after one call. With an order out asking and finding are refused, with none out done and failed are, and so
-- is finding a value that is not a state; what is refused changes nothing. Done moves the plant to the state that the step gives,
-- if it gives one; else it stays.
abbrev pub reckon : {S F : Type 0} → Meaning S F → Ledger S → Call S → Answer → Ledger S
reckon m l (calls.Ask x y) a = elim l.out [ None ↦ with_order l a | Some o ↦ l ]
reckon m l calls.Done a = elim l.out [ None ↦ l | Some o ↦ reported l (result_unwrap_or (m.step l.stands o.action) l.stands) ]
reckon m l calls.Failed a = elim l.out [ None ↦ l | Some o ↦ reported l l.stands ]
reckon m l (calls.Find s) a =
    elim l.out [ None ↦ cond (m.is_state s) (record { stands = s; reports = l.reports; out = None }) l | Some o ↦ l ]
reckon m l (calls.Show p) a = l

-- the ledger after a list of calls with their answers
abbrev pub reckoned : {S F : Type 0} → Meaning S F → Ledger S → List (Event S) → Ledger S
reckoned m l [] = l
reckoned m l (e ∷ es) = reckoned m (reckon m l e.call e.answer) es

-- r, the steps that are left of the bound b, as it is read
abbrev pub left : {S : Type 0} → ℕ → Ledger S → ℕ
left b l = b - l.reports
