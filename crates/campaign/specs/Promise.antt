-- The promise over every run: 'no way' is true when said, and every order done brings the goal one nearer.
use Rattle.std.specs.Prelude.{◌≡◌, ℕ, ◌+◌, ◌-◌, ◌<◌, ◌≤◌, true, cond, List, [], ◌∷◌, ◌++◌, replicate, Some, None}
use Rattle.model.specs.Meaning.{Meaning}
use Rattle.model.specs.Shown.{Shown}
use Rattle.planner.specs.Leads.{Distance}
use Rattle.campaign.specs.Ledger.{reckon, reckoned, left}
use Rattle.campaign.specs.Says.{Answered, Says}
use Rattle.campaign.specs.Sound.{Sound}
use Rattle.campaign.specs.declared.answer.Answer.{Answer}
use Rattle.campaign.specs.declared.answer.Answer.TheVariants as answers
use Rattle.campaign.specs.declared.call.Call.{Call}
use Rattle.campaign.specs.declared.call.Call.TheVariants as calls
use Rattle.campaign.specs.declared.call.Event.{Event}
use Rattle.campaign.specs.declared.ledger.Ledger.{Ledger}
use Rattle.campaign.specs.declared.order.Order.{Order}

-- A run of calls from the ledger l: each answer is what the contract of its call says.
abbrev pub Follows : {S F : Type 0} → Meaning S F → Shown S → ℕ → Ledger S → List (Event S) → Type 0
Follows m v b l [] = Unit {0}
Follows m v b l (e ∷ es) = Says m v b l e.call e.answer × Follows m v b (reckon m l e.call e.answer) es

-- the kind of an accepted report or finding
pub data Mark : Type 0 where
  done : Mark
  failed : Mark
  found : Mark

-- the mark of a call: none where it is refused, asks or shows
abbrev pub mark : {S F : Type 0} → Meaning S F → Ledger S → Call S → List Mark
mark m l (calls.Ask x y) = []
mark m l calls.Done = elim l.out [ None ↦ [] | Some o ↦ done ∷ [] ]
mark m l calls.Failed = elim l.out [ None ↦ [] | Some o ↦ failed ∷ [] ]
mark m l (calls.Find s) = elim l.out [ None ↦ cond (m.is_state s) (found ∷ []) [] | Some o ↦ [] ]
mark m l (calls.Show p) = []

-- the reports and findings accepted in a run, in their order
abbrev pub marks : {S F : Type 0} → Meaning S F → Ledger S → List (Event S) → List Mark
marks m l [] = []
marks m l (e ∷ es) = mark m l e.call ++ marks m (reckon m l e.call e.answer) es

abbrev pub ask_event : {S : Type 0} → ℕ → ℕ → Answer → Event S
ask_event states actions a = record { call = calls.Ask states actions; answer = a }

abbrev pub done_event : {S : Type 0} → Answer → Event S
done_event a = record { call = calls.Done; answer = a }

-- Every asking with no order out and with room for the steps left, wherever it stands in the run: 'no way' is true when
-- said and said when true, and otherwise the answer tells the fewest steps.
abbrev pub Asking : {S F : Type 0} → Meaning S F → ℕ → Ledger S → List (Event S) → Type 0
Asking {S} m b l es =
    (before after : List (Event S)) (states actions : ℕ) (a : Answer) →
    es ≡ before ++ (ask_event states actions a ∷ after) →
    (k : Ledger S) → k ≡ reckoned m l before →
    k.out ≡ None → left b k + 1 ≤ states → left b k ≤ actions →
    Answered m k.stands (left b k) a

-- After an order of d steps the next d accepted reports are all 'done', with no finding accepted between the order and the
-- last of them: then the plant meets the goal.
abbrev pub Arriving : {S F : Type 0} → Meaning S F → Ledger S → List (Event S) → Type 0
Arriving {S} m l es =
    (before during after : List (Event S)) (states actions : ℕ) (o : Order) →
    es ≡ before ++ (ask_event states actions (answers.Order o) ∷ (during ++ after)) →
    (k : Ledger S) → k ≡ reckoned m l (before ++ (ask_event states actions (answers.Order o) ∷ [])) →
    0 < o.steps → marks m k during ≡ replicate o.steps done →
    m.at_goal (reckoned m k during).stands ≡ true

-- Wherever the run has come to, the plant stands at a state, and the order out, if there is one, is right there.
abbrev pub Standing : {S F : Type 0} → Meaning S F → ℕ → Ledger S → List (Event S) → Type 0
Standing {S} m b l es =
    (before after : List (Event S)) →
    es ≡ before ++ after →
    (k : Ledger S) → k ≡ reckoned m l before → Sound m b k

-- An order that is done brings the goal one step nearer.
abbrev pub Nearing : {S F : Type 0} → Meaning S F → Ledger S → List (Event S) → Type 0
Nearing {S} m l es =
    (before after : List (Event S)) (a : Answer) →
    es ≡ before ++ (done_event a ∷ after) →
    (k : Ledger S) → k ≡ reckoned m l before →
    (o : Order) → k.out ≡ Some o →
    Distance m k.stands o.steps × Distance m (reckon m k calls.Done a).stands (o.steps - 1)

-- what holds of a run that begins at the ledger l
pub record Promised {S F : Type 0} (m : Meaning S F) (b : ℕ) (l : Ledger S) (es : List (Event S)) : Type 0 where
  pub asking : Asking m b l es
  pub arriving : Arriving m l es
  pub standing : Standing m b l es
  pub nearing : Nearing m l es

-- The promise, where the ledger is l: it holds of every run of calls from there, however the model is shown.
abbrev pub Promise : {S F : Type 0} → Meaning S F → ℕ → Ledger S → Type 0
Promise {S} m b l = (v : Shown S) (es : List (Event S)) → Follows m v b l es → Promised m b l es
