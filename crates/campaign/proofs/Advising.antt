-- What a plan says to a crew. Assumes nothing.
use Rattle.std.proofs.Common.{◌≡◌, ℕ, ◌≤◌, List, [], ◌∷◌, length, Ok, sym, refl, ap, ◌∙◌, subst, inl, inr, arith}
use Rattle.model.specs.Meaning.{Meaning}
use Rattle.planner.proofs.Plans.{way_within}
use Rattle.planner.proofs.Ways.{true_not_false}
use Rattle.planner.specs.Leads.{Leads, NoWay, NotAfter, Passes}
use Rattle.planner.specs.Planned.{Planned}
use Rattle.planner.specs.declared.planning.PlanAnswer.TheVariants.{Steps}
use Rattle.trail.specs.Held.{held, room}
use Rattle.trail.specs.declared.Trail.{Trail}
use Rattle.campaign.specs.Answers.{of_ask}
use Rattle.campaign.specs.Asked.{TrailsHold, Asked}
use Rattle.campaign.specs.AdviceOf.{advice_of}
use Rattle.campaign.specs.Says.{Ordered, Answered, Advised}
use Rattle.campaign.specs.declared.answer.Answer.TheVariants as answers

module _ {S F : Type 0} (m : Meaning S F) (s : S) (r d : ℕ) (t t' : Trail S) (u u' : Trail ℕ) (p : Planned m s r t u (Ok (Steps d)) t' u') where
  some_way : NoWay m s r → ⊥
  some_way = way_within m s r d p.says.1.distance p.says.1.within

  not_after_head : (x y : ℕ) (xs ys : List ℕ) → NotAfter (x ∷ xs) (y ∷ ys) → x ≤ y
  not_after_head x y xs ys (inl h) = omega arith
  not_after_head x y xs ys (inr h) = omega (arith, h.0)

  -- the first action of the best list is the lowest that begins one as short
  ordered : (x : ℕ) (xs : List ℕ) → held u' ≡ x ∷ xs → Ordered m s d (answers.Order (record { action = x; steps = d }))
  ordered x xs e =
      let first = p.says.1.first in
      record {
        action = x;
        said = refl;
        begins = (xs, sym (ap length e) ∙ first.counted, subst (λ ys. Leads m s ys) e first.leads);
        lowest = λ y b. not_after_head x y xs b.0 (subst (λ ys. NotAfter ys (y ∷ b.0)) e (first.first (y ∷ b.0) b.1 b.2));
      }

  answered : (path : List ℕ) → held u' ≡ path → Answered m s r (of_ask (Ok (advice_of path d)))
  answered [] e =
      record {
        true_when_said = λ q. absurd cc;
        said_when_true = λ none. absurd (some_way none);
        otherwise = λ _. record {
          d = d;
          within = p.says.1.within;
          distance = p.says.1.distance;
          met = λ _. refl;
          unmet = λ h. absurd (omega (arith, p.says.1.first.counted, ap length e));
        };
      }
  answered (x ∷ xs) e =
      record {
        true_when_said = λ q. absurd cc;
        said_when_true = λ none. absurd (some_way none);
        otherwise = λ _. record {
          d = d;
          within = p.says.1.within;
          distance = p.says.1.distance;
          met = λ z. absurd (omega (arith, p.says.1.first.counted, ap length e));
          unmet = λ _. ordered x xs e;
        };
      }

  hold : (path : List ℕ) → held u' ≡ path → TrailsHold m s t u (Ok (advice_of path d)) t' u'
  hold [] e = (e, subst (λ ys. Passes m s ys (held t')) e p.says.1.first.passes)
  hold (x ∷ xs) e = (p.says.1.first, (xs, e))

  pub steps_advised : Advised m s r (room t) (room u) (of_ask (Ok (advice_of (held u') d)))
  steps_advised =
      let ready = p.says.0 in
      record {
        no_state = λ f. absurd (true_not_false ready.state f);
        few_states = λ _ h. absurd (omega (arith, ready.states_room));
        few_actions = λ _ _ h. absurd (omega (arith, ready.actions_room));
        advice = λ _ _ _. answered (held u') refl;
      }

  pub steps_asked : Asked m s r t u (Ok (advice_of (held u') d)) t' u'
  steps_asked = record { holds = hold (held u') refl; states_kept = p.states_kept; actions_kept = p.actions_kept }
