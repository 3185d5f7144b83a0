-- What deepening level by level finds, and that an answer which says something true is the only one. Assumes nothing.
use Rattle.std.proofs.Common.{◌≡◌, ℕ, ◌+◌, ◌<◌, ◌≤◌, List, length, Ok, Err, Result, refl, ap, arith}
use native.Mathlib.Decide.{dec_lt}
use Rattle.model.specs.Meaning.{Meaning}
use Rattle.trail.specs.Held.{KeptFrom}
use Rattle.trail.specs.declared.Trail.{Trail}
use Rattle.planner.specs.Leads.{Leads, NoWay, Distance, First}
use Rattle.planner.specs.Planned.{Best, Ready, PlanSays, Planned}
use Rattle.planner.specs.Search.{NoneOf}
use Rattle.planner.specs.declared.fault.PlanFault.{PlanFault}
use Rattle.planner.specs.declared.fault.PlanFault.TheVariants.{NotAState, FewStates, FewActions}
use Rattle.planner.specs.declared.planning.PlanAnswer.{PlanAnswer}
use Rattle.planner.specs.declared.planning.PlanAnswer.TheVariants as answers
use Rattle.planner.proofs.Ways.{true_not_false}

module _ {S F : Type 0} (m : Meaning S F) (s : S) where
  -- no list of fewer than k actions leads to the goal
  abbrev pub NoneBelow : ℕ → Type 0
  NoneBelow k = (xs : List ℕ) → length xs < k → Leads m s xs → ⊥

  pub none_deeper : (k : ℕ) → NoneBelow k → NoneOf m s k → NoneBelow (k + 1)
  none_deeper k below here xs h l = elim (dec_lt (length xs) k) [ yes lt ↦ below xs lt l | no ge ↦ here xs (omega arith) l ]

  not_fewer : (k : ℕ) → NoneBelow k → (xs : List ℕ) → Leads m s xs → k ≤ length xs
  not_fewer k below xs l = elim (dec_lt (length xs) k) [ yes lt ↦ absurd (below xs lt l) | no ge ↦ omega arith ]

  pub best : (r k : ℕ) (path : List ℕ) (ss : List S) → k ≤ r → NoneBelow k → First m s k path ss → Best m s r k path ss
  best r k path ss h below f =
      record {
        within = h;
        distance = record { reached = (path, f.counted, f.leads); least = not_fewer k below };
        first = f;
      }

  pub same_distance : (d e : ℕ) → Distance m s d → Distance m s e → d ≡ e
  same_distance d e p q =
      let x = p.reached in
      let y = q.reached in
      omega (arith, p.least y.0 y.2, q.least x.0 x.2, x.1, y.1)

  pub way_within : (r d : ℕ) → Distance m s d → d ≤ r → NoWay m s r → ⊥
  way_within r d p h none = let x = p.reached in none x.0 (omega (arith, x.1)) x.2

  refused_unready : (r : ℕ) (t : Trail S) (u : Trail ℕ) (f : PlanFault) (t' : Trail S) (u' : Trail ℕ) → PlanSays m s r t u (Err f) t' u' → Ready m s r t u → ⊥
  refused_unready r t u NotAState t' u' h q = true_not_false q.state h.0
  refused_unready r t u FewStates t' u' h q = omega (arith, q.states_room)
  refused_unready r t u FewActions t' u' h q = omega (arith, q.actions_room)

  pub planned : (r : ℕ) (t : Trail S) (u : Trail ℕ) (a : Result PlanAnswer PlanFault) (t' : Trail S) (u' : Trail ℕ) → PlanSays m s r t u a t' u' → KeptFrom (r + 1) t t' → KeptFrom r u u' → Planned m s r t u a t' u'
  planned r t u (Ok (answers.Steps d)) t' u' h ts us =
      record {
        says = h;
        states_kept = ts;
        actions_kept = us;
        no_way = λ _ none. absurd (way_within r d h.1.distance h.1.within none);
        steps = λ e _ p _. ap (λ n. Ok (answers.Steps n)) (same_distance d e h.1.distance p);
      }
  planned r t u (Ok answers.NoWay) t' u' h ts us =
      record {
        says = h;
        states_kept = ts;
        actions_kept = us;
        no_way = λ _ _. refl;
        steps = λ d _ p w. absurd (way_within r d p w h.1);
      }
  planned r t u (Err f) t' u' h ts us =
      let none = λ (q : Ready m s r t u). refused_unready r t u f t' u' h q in
      record { says = h; states_kept = ts; actions_kept = us; no_way = λ q _. absurd (none q); steps = λ d q _ _. absurd (none q) }
