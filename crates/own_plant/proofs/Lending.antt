-- What the lender of a trail's places learns from planning. Assumes nothing.
use Rattle.std.proofs.Common.{◌≡◌, ℕ, ◌+◌, List, length, take, drop, Ok, Err, Result, sym, ap, ◌∙◌, subst₂, arith, length-take}
use Rattle.hall.specs.Hall.{hall_meaning}
use Rattle.hall.specs.declared.plant.Plant.{Plant}
use Rattle.planner.proofs.Ways.{passes_length}
use Rattle.planner.specs.Leads.{First}
use Rattle.planner.specs.Planned.{Planned}
use Rattle.planner.specs.declared.fault.PlanFault.{PlanFault}
use Rattle.planner.specs.declared.fault.PlanFault.TheVariants.{NotAState, FewStates, FewActions}
use Rattle.planner.specs.declared.planning.PlanAnswer.{PlanAnswer}
use Rattle.planner.specs.declared.planning.PlanAnswer.TheVariants.{Steps, NoWay}
use Rattle.trail.proofs.Effects.{held_front}
use Rattle.trail.specs.Held.{held}
use Rattle.trail.specs.declared.Trail.{Trail}
use Rattle.own_plant.specs.Lent.{Lent, Later}

module _ (s : Plant) (r : ℕ) (t t' : Trail Plant) (u u' : Trail ℕ) (ss ss' : List Plant) (xs xs' : List ℕ) (et : t.places.now ≡ ss) (et' : ss' ≡ t'.places.now) (eu : u.places.now ≡ xs) (eu' : xs' ≡ u'.places.now) where
  later : (a : Result PlanAnswer PlanFault) → Planned hall_meaning s r t u a t' u' → Later r ss ss' xs xs'
  later a p =
      record {
        states = ap (drop (r + 1)) et' ∙ p.states_kept.later ∙ ap (drop (r + 1)) et;
        actions = ap (drop r) eu' ∙ p.actions_kept.later ∙ ap (drop r) eu;
      }

  fronts : (d : ℕ) → First hall_meaning s d (held u') (held t') → First hall_meaning s d (take d xs') (take (d + 1) ss')
  fronts d f =
      let passed : length (held t') ≡ d + 1 = omega (arith, passes_length hall_meaning s (held u') (held t') f.passes, f.counted) in
      let path = held_front u' d f.counted ∙ ap (take d) (sym eu') in
      let states = held_front t' (d + 1) passed ∙ ap (take (d + 1)) (sym et') in
      subst₂ (λ p q. First hall_meaning s d p q) path states f

  same : t' ≡ t → u' ≡ u → (ss' ≡ ss) × (xs' ≡ xs)
  same e f = (et' ∙ ap (λ v. v.places.now) e ∙ et, eu' ∙ ap (λ v. v.places.now) f ∙ eu)

  pub lent : (a : Result PlanAnswer PlanFault) → Planned hall_meaning s r t u a t' u' → Lent s r a ss ss' xs xs'
  lent (Ok (Steps d)) p =
      let f = fronts d p.says.1.first in
      (omega (arith, f.counted, length-take d xs'), f, later (Ok (Steps d)) p)
  lent (Ok NoWay) p = (p.says.1, later (Ok NoWay) p)
  lent (Err NotAState) p = same p.says.1 p.says.2
  lent (Err FewStates) p = same p.says.2 p.says.3
  lent (Err FewActions) p = same p.says.3 p.says.4
