-- What the places that were lent for asking hold after a call, and after a list of calls.
use Rattle.std.specs.Prelude.{◌≡◌, ℕ, ◌+◌, List, [], ◌∷◌, take, drop}
use Rattle.model.specs.Meaning.{Meaning}
use Rattle.planner.specs.Leads.{First}
use Rattle.campaign.specs.declared.answer.Answer.{Answer}
use Rattle.campaign.specs.declared.answer.Answer.TheVariants.{Order, Reached, NoWay, Accepted, Number, Refused}
use Rattle.campaign.specs.declared.call.Event.{Event}

-- the call did not plan: it was refused, or it was no asking
abbrev pub Unplanned : Answer → Type 0
Unplanned (Order o) = ⊥
Unplanned Reached = ⊥
Unplanned NoWay = ⊥
Unplanned (Accepted n) = Unit {0}
Unplanned (Number n) = Unit {0}
Unplanned (Refused f) = Unit {0}

-- What the answer says of the front of the places. With an order it is the best list, which begins with the order's action,
-- and the states that it passes; with 'reached' it is the state s, where the plant stands.
abbrev pub FrontHolds : {S F : Type 0} → Meaning S F → S → Answer → List S → List ℕ → Type 0
FrontHolds m s (Order o) ss xs =
    First m s o.steps (take o.steps xs) (take (o.steps + 1) ss) × ((rest : List ℕ) × (take o.steps xs ≡ o.action ∷ rest))
FrontHolds m s Reached ss xs = take 1 ss ≡ s ∷ []
FrontHolds m s NoWay ss xs = Unit {0}
FrontHolds m s (Accepted n) ss xs = Unit {0}
FrontHolds m s (Number n) ss xs = Unit {0}
FrontHolds m s (Refused f) ss xs = Unit {0}

-- One call was answered by a, where the plant stood at s with r steps left. The places held ss and xs, and then ss' and xs'.
pub record PlacesHold {S F : Type 0} (m : Meaning S F) (s : S) (r : ℕ) (a : Answer) (ss ss' : List S) (xs xs' : List ℕ) : Type 0 where
  pub front : FrontHolds m s a ss' xs'
  -- only the first r + 1 for states and the first r for actions may have changed
  pub states : drop (r + 1) ss' ≡ drop (r + 1) ss
  pub actions : drop r xs' ≡ drop r xs
  -- and none where the call did not plan
  pub unused : Unplanned a → (ss' ≡ ss) × (xs' ≡ xs)

-- no call of the log planned
abbrev pub NonePlanned : {S : Type 0} → List (Event S) → Type 0
NonePlanned [] = Unit {0}
NonePlanned (e ∷ es) = Unplanned e.answer × NonePlanned es

-- The places held ss and xs, and hold ss' and xs' after the calls of the log, under the bound b.
pub record PlacesKept {S : Type 0} (b : ℕ) (log : List (Event S)) (ss ss' : List S) (xs xs' : List ℕ) : Type 0 where
  -- only the first b + 1 for states and the first b for actions may have changed
  pub states : drop (b + 1) ss' ≡ drop (b + 1) ss
  pub actions : drop b xs' ≡ drop b xs
  -- and none where no call planned
  pub unused : NonePlanned log → (ss' ≡ ss) × (xs' ≡ xs)
