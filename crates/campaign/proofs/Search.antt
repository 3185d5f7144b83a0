-- Whether a way of a length leads to the goal can be found out, so where there is one, one is at hand. Assumes nothing.
use Rattle.std.proofs.Common.{◌≡◌, ℕ, zero, suc, ◌≤◌, Bool, true, false, List, [], ◌∷◌, length, Ok, Err, Result, refl, ap, subst, arith}
use Rattle.std.proofs.Math.Logic.{∥∥₁_elim}
use mathlib.Core.HLevel.{⊥_prop}
use native.Mathlib.Decide.{map_dec, dec_le}
use Rattle.model.specs.Meaning.{Meaning, Lawful}
use Rattle.planner.proofs.Ways.{ok_not_err, same_ok, refuses_not_ok, true_not_false, allowed_within}
use Rattle.planner.specs.Leads.{Leads, Begins}

module _ {S F : Type 0} (m : Meaning S F) (law : Lawful m) where
  -- a list of d actions that leads to the goal
  abbrev Way : ℕ → S → Type 0
  Way d s = (xs : List ℕ) × (length xs ≡ d) × Leads m s xs

  -- one that begins with the action a, which is answered by r
  begun : (d : ℕ) (s : S) (a : ℕ) (r : Result S F) → m.step s a ≡ r → ((t : S) → Dec (Way d t)) → Dec (Begins m s (suc d) a)
  begun d s a (Ok t) e after =
      map_dec
      (λ (w : Way d t). (w.0, ap suc w.1, (t, e, w.2)))
      (λ (b : Begins m s (suc d) a). (b.0, omega (arith, b.1), subst (λ u. Leads m u b.0) (same_ok b.2.1 e) b.2.2))
      (after t)
  begun d s a (Err f) e after = no (λ b. ok_not_err b.2.1 e)

  -- one that begins with one of the first n actions
  among : (d : ℕ) (s : S) → ((t : S) → Dec (Way d t)) → (n : ℕ) → Dec ((a : ℕ) × (a ≤ n) × Begins m s (suc d) a)
  among d s after zero = no (λ w. refuses_not_ok (law.below s) (subst (λ a. m.step s a ≡ Ok w.2.2.0) (let z : w.0 ≡ 0 = omega (arith, w.1) in z) w.2.2.1))
  among d s after (suc n) =
      elim (among d s after n) [
        | yes w ↦ yes (w.0, omega (arith, w.1), w.2)
        | no h ↦ elim (begun d s (suc n) (m.step s (suc n)) refl after) [
          | yes b ↦ yes (suc n, omega arith, b)
          | no k ↦ no (λ w. elim (dec_le w.0 n) [
            | yes le ↦ h (w.0, le, w.2)
            | no gt ↦ k (subst (λ a. Begins m s (suc d) a) (omega (arith, w.1)) w.2)
          ])
        ]
      ]

  at_once : (s : S) (b : Bool) → m.at_goal s ≡ b → Dec (Way 0 s)
  at_once s true e = yes ([], refl, e)
  at_once s false e = no (λ w. none w.0 w.1 w.2)
    where
      none : (xs : List ℕ) → length xs ≡ 0 → Leads m s xs → ⊥
      none [] h l = true_not_false l e
      none (x ∷ xs) h l = omega (arith, h)

  way : (d : ℕ) (s : S) → Dec (Way d s)
  way zero s = at_once s (m.at_goal s) refl
  way (suc d) s = map_dec (λ (w : (a : ℕ) × (a ≤ m.actions) × Begins m s (suc d) a). (w.0 ∷ w.2.0, w.2.1, w.2.2)) (λ (w : Way (suc d) s). first w.0 w.1 w.2) (among d s (λ t. way d t) m.actions)
    where
      first : (xs : List ℕ) → length xs ≡ suc d → Leads m s xs → (a : ℕ) × (a ≤ m.actions) × Begins m s (suc d) a
      first [] h l = absurd (omega (arith, h))
      first (a ∷ xs) h l = (a, allowed_within m law s l.0 a l.1, (xs, h, l))

  dec_begins : (d : ℕ) (s : S) (a : ℕ) → Dec (Begins m s d a)
  dec_begins zero s a = no (λ b. omega (arith, b.1))
  dec_begins (suc d) s a = begun d s a (m.step s a) refl (way d)

  pub begins : (d : ℕ) (s : S) (a : ℕ) → ∥ Begins m s d a ∥₁ → Begins m s d a
  begins d s a some = elim (dec_begins d s a) [ yes b ↦ b | no h ↦ absurd (∥∥₁_elim some ⊥_prop h) ]
