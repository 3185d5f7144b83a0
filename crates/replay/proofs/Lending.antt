-- What the lent places hold once the trails over their front are gone. Assumes nothing.
use Rattle.std.proofs.Common.{◌≡◌, ℕ, ◌+◌, ◌≤◌, List, ◌++◌, length, take, drop, Ok, Err, Result, sym, ap, ◌∙◌, subst, subst₂, arith, length-take}
use Rattle.std.proofs.lemmas.List.{take-append-le, take-append-drop}
use Rattle.model.specs.Meaning.{Meaning}
use Rattle.planner.proofs.Ways.{passes_length}
use Rattle.planner.specs.Leads.{First}
use Rattle.trail.proofs.Effects.{held_front}
use Rattle.trail.specs.Held.{held}
use Rattle.trail.specs.declared.Trail.{Trail}
use Rattle.campaign.specs.Answers.{of_ask}
use Rattle.campaign.specs.Asked.{TrailsHold, Asked}
use Rattle.campaign.specs.declared.answer.Advice.{Advice}
use Rattle.campaign.specs.declared.answer.Advice.TheVariants as advice
use Rattle.campaign.specs.declared.answer.Answer.{Answer}
use Rattle.campaign.specs.declared.answer.Answer.TheVariants.{Order, Reached, NoWay, Accepted, Number, Refused}
use Rattle.campaign.specs.declared.fault.CampaignFault.{CampaignFault}
use Rattle.replay.specs.Places.{Unplanned, FrontHolds, PlacesHold}
use Rattle.replay.proofs.Fronts.{front_kept}

-- more places behind those at the front
longer : {S F : Type 0} (m : Meaning S F) (s : S) (a : Answer) (ss ss' : List S) (xs xs' : List ℕ) → FrontHolds m s a ss xs → FrontHolds m s a (ss ++ ss') (xs ++ xs')
longer m s (Order o) ss ss' xs xs' h =
    let path = take-append-le o.steps xs xs' (omega (arith, length-take o.steps xs, h.0.counted)) in
    let states = take-append-le (o.steps + 1) ss ss' (omega (arith, length-take (o.steps + 1) ss, passes_length m s _ _ h.0.passes, h.0.counted)) in
    (subst₂ (λ p q. First m s o.steps p q) (sym path) (sym states) h.0, (h.1.0, path ∙ h.1.1))
longer m s Reached ss ss' xs xs' h = take-append-le 1 ss ss' (omega (arith, length-take 1 ss, ap length h)) ∙ h
longer m s NoWay ss ss' xs xs' h = tt
longer m s (Accepted n) ss ss' xs xs' h = tt
longer m s (Number n) ss ss' xs xs' h = tt
longer m s (Refused f) ss ss' xs xs' h = tt

module _ {S F : Type 0} (m : Meaning S F) (s : S) (r : ℕ) where
  -- The trails t and u stand over the places ss and xs. After asking they are t' and u', and their places ss' and xs'.
  module _ (t t' : Trail S) (u u' : Trail ℕ) (ss ss' : List S) (xs xs' : List ℕ) (et : t.places.now ≡ ss) (et' : ss' ≡ t'.places.now) (eu : u.places.now ≡ xs) (eu' : xs' ≡ u'.places.now) where
    held_states : (d : ℕ) → length (held t') ≡ d → held t' ≡ take d ss'
    held_states d e = held_front t' d e ∙ ap (take d) (sym et')

    front : (a : Result Advice CampaignFault) → TrailsHold m s t u a t' u' → FrontHolds m s (of_ask a) ss' xs'
    front (Ok (advice.Order o)) h =
        let path = held_front u' o.steps h.0.counted ∙ ap (take o.steps) (sym eu') in
        let states = held_states (o.steps + 1) (omega (arith, passes_length m s (held u') (held t') h.0.passes, h.0.counted)) in
        (subst₂ (λ p q. First m s o.steps p q) path states h.0, (h.1.0, sym path ∙ h.1.1))
    front (Ok advice.Reached) h = sym (held_states 1 (ap length h.1)) ∙ h.1
    front (Ok advice.NoWay) h = tt
    front (Err f) h = tt

    unused : (a : Result Advice CampaignFault) → TrailsHold m s t u a t' u' → Unplanned (of_ask a) → (ss' ≡ ss) × (xs' ≡ xs)
    unused (Ok (advice.Order o)) h none = absurd none
    unused (Ok advice.Reached) h none = absurd none
    unused (Ok advice.NoWay) h none = absurd none
    unused (Err f) h none = (et' ∙ ap (λ v. v.places.now) h.0 ∙ et, eu' ∙ ap (λ v. v.places.now) h.1 ∙ eu)

    pub lent : (a : Result Advice CampaignFault) (b : Answer) → b ≡ of_ask a → Asked m s r t u a t' u' → PlacesHold m s r b ss ss' xs xs'
    lent a b e asked =
        subst (λ x. PlacesHold m s r x ss ss' xs xs') (sym e)
        (record {
          front = front a asked.holds;
          states = ap (drop (r + 1)) et' ∙ asked.states_kept.later ∙ ap (drop (r + 1)) et;
          actions = ap (drop r) eu' ∙ asked.actions_kept.later ∙ ap (drop r) eu;
          unused = unused a asked.holds;
        })

  -- the first n of the places ss and the first k of xs were lent
  pub front_lent : (a : Answer) (n k : ℕ) (ss ss' : List S) (xs xs' : List ℕ) → length ss' ≡ n → length xs' ≡ k → n ≤ length ss → k ≤ length xs → PlacesHold m s r a (take n ss) ss' (take k xs) xs' → PlacesHold m s r a ss (ss' ++ drop n ss) xs (xs' ++ drop k xs)
  front_lent a n k ss ss' xs xs' es ex hs hx h =
      record {
        front = longer m s a ss' (drop n ss) xs' (drop k xs) h.front;
        states = front_kept (r + 1) n ss ss' hs es h.states;
        actions = front_kept r k xs xs' hx ex h.actions;
        unused = λ none.
            let same = h.unused none in
            (ap (λ zs. zs ++ drop n ss) same.0 ∙ take-append-drop n ss, ap (λ zs. zs ++ drop k xs) same.1 ∙ take-append-drop k xs);
      }
