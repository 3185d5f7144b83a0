-- What the invariant of every campaign gives. Assumes nothing.
use Rattle.std.proofs.Common.{◌≡◌, ℕ, ◌<◌, ◌≤◌, true, ◌∷◌, Some, None, Ok, Err, Option, Result, sym, refl, ap, ◌∙◌, subst, arith}
use Rattle.std.proofs.Math.Bool.{Bool-set}
use Rattle.std.proofs.Math.Logic.{∥∥₁_elim, ∥∥₁_map}
use Rattle.std.specs.Coded.{le_prop}
use Rattle.std.specs.Prelude.{IfSome}
use Rattle.std.specs.Result.{result_unwrap_or}
use Rattle.model.specs.Meaning.{Meaning, Lawful}
use Rattle.campaign.proofs.Runs.{promised, sound_idle}
use Rattle.campaign.proofs.Search.{begins}
use Rattle.campaign.specs.Ledger.{left}
use Rattle.campaign.specs.Promise.{Promise}
use Rattle.campaign.specs.Sound.{Due, Sound}
use Rattle.campaign.specs.declared.ledger.Ledger.{Ledger}
use Rattle.campaign.specs.declared.order.Order.{Order}

-- with no order out it is enough that the plant stands at a state, with no more reports than the bound
pub idle : {S F : Type 0} {m : Meaning S F} {b : ℕ} (s : S) (n : ℕ) → n ≤ b → m.is_state s ≡ true → ∥ Sound m b (record { stands = s; reports = n; out = None }) ∥₁
idle s n few h = ∣ sound_idle _ _ s n few h ∣₁

module _ {S F : Type 0} {m : Meaning S F} {b : ℕ} {l : Ledger S} (kept : ∥ Sound m b l ∥₁) where
  pub state : m.is_state l.stands ≡ true
  state = ∥∥₁_elim kept (Bool-set _ _) (λ s. s.state)

  pub within : l.reports ≤ b
  within = ∥∥₁_elim kept le_prop (λ s. s.within)

  module _ (o : Order) (out : l.out ≡ Some o) where
    due_in : Sound m b l → Due m l.stands (left b l) o
    due_in s = subst (λ x. IfSome x (Due m l.stands (left b l))) out s.order

    -- an order is out only while steps are left for it
    pub unspent : l.reports < b
    unspent = ∥∥₁_elim kept le_prop (λ s. let due = due_in s in omega arith)

    -- carrying it out leads to a state
    pub next_state : Lawful m → (r : Result S F) (t : S) → r ≡ m.step l.stands o.action → t ≡ result_unwrap_or r l.stands → m.is_state t ≡ true
    next_state law (Ok u) t e f = ap m.is_state f ∙ law.step_state l.stands o.action u (sym e)
    next_state law (Err f) t e g = ap m.is_state g ∙ state

    -- each part of it either has one proof at most or can be decided
    due : Lawful m → Due m l.stands (left b l) o
    due law =
        let begun = begins m law o.steps l.stands o.action (∥∥₁_map kept (λ s. (due_in s).begins)) in
        record {
          positive = ∥∥₁_elim kept le_prop (λ s. (due_in s).positive);
          within = ∥∥₁_elim kept le_prop (λ s. (due_in s).within);
          distance = record {
            reached = (o.action ∷ begun.0, begun.1, begun.2);
            least = λ xs leads. ∥∥₁_elim kept le_prop (λ s. (due_in s).distance.least xs leads);
          };
          begins = begun;
        }

  pub sound : Lawful m → Sound m b l
  sound law = record { state = state; within = within; order = by_order l.out refl }
    where
      by_order : (out : Option Order) → l.out ≡ out → IfSome out (Due m l.stands (left b l))
      by_order None e = tt
      by_order (Some o) e = due o e law

  pub order : Lawful m → IfSome l.out (Due m l.stands (left b l))
  order law = (sound law).order

  -- whatever calls follow, their answers keep the promise
  pub promise : Lawful m → Promise m b l
  promise law = λ v es f. promised m law v b l (sound law) es f
