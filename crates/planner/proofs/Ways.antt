-- What follows of lists of actions that reach a state, pass states or lead to the goal. Assumes nothing.
use Rattle.std.proofs.Common.{◌≡◌, ℕ, suc, ◌+◌, ◌<◌, ◌≤◌, Bool, true, false, List, [], ◌∷◌, ◌++◌, length, Ok, Err, Result, sym, refl, ap, ◌∙◌, subst, arith}
use native.Mathlib.Decide.{dec_le, dec_lt}
use Rattle.std.proofs.lemmas.List.{same_from_push}
use Rattle.model.specs.Meaning.{Meaning, Lawful, Refuses}
use Rattle.planner.specs.Leads.{Leads, Reaches, Passes}

-- a result is not a state and a cause at once
pub ok_not_err : {S F : Type 0} {r : Result S F} {t : S} {f : F} → r ≡ Ok t → r ≡ Err f → ⊥
ok_not_err p q = let z : ◌≡◌ {A = ℕ} 0 1 = cc in omega arith

pub same_ok : {S F : Type 0} {r : Result S F} {t u : S} → r ≡ Ok t → r ≡ Ok u → t ≡ u
same_ok p q = cc

pub refuses_not_ok : {S F : Type 0} {r : Result S F} {t : S} → Refuses r → r ≡ Ok t → ⊥
refuses_not_ok h e = subst Refuses e h

pub true_not_false : {b : Bool} → b ≡ true → b ≡ false → ⊥
true_not_false p q = let z : ◌≡◌ {A = ℕ} 0 1 = cc in omega arith

same_head : {X : Type 0} {x y : X} {xs ys : List X} → x ∷ xs ≡ y ∷ ys → x ≡ y
same_head e = cc

same_tail : {X : Type 0} {x y : X} {xs ys : List X} → x ∷ xs ≡ y ∷ ys → xs ≡ ys
same_tail e = cc

module _ {S F : Type 0} (m : Meaning S F) where
  pub reaches_push : (s u t : S) (xs : List ℕ) (a : ℕ) → Reaches m s xs u → m.step u a ≡ Ok t → Reaches m s (xs ++ (a ∷ [])) t
  reaches_push s u t [] a h e = (t, rw (← h) e, refl)
  reaches_push s u t (x ∷ xs) a h e = (h.0, h.1, reaches_push h.0 u t xs a h.2 e)

  pub leads_reached : (s t : S) (xs : List ℕ) → Reaches m s xs t → m.at_goal t ≡ true → Leads m s xs
  leads_reached s t [] h goal = rw (← h) goal
  leads_reached s t (x ∷ xs) h goal = (h.0, h.1, leads_reached h.0 t xs h.2 goal)

  -- what is left of a list that leads, from the state that its front reaches
  pub leads_rest : (s t : S) (xs ys : List ℕ) → Reaches m s xs t → Leads m s (xs ++ ys) → Leads m t ys
  leads_rest s t [] ys h l = subst (λ u. Leads m u ys) (sym h) l
  leads_rest s t (x ∷ xs) ys h l =
      leads_rest h.0 t xs ys h.2 (subst (λ u. Leads m u (xs ++ ys)) (same_ok l.1 h.1) l.2)

  -- an allowed action is one of 1 to A
  pub allowed_within : Lawful m → (s t : S) (a : ℕ) → m.step s a ≡ Ok t → a ≤ m.actions
  allowed_within law s t a e = elim (dec_le a m.actions) [ yes h ↦ h | no h ↦ absurd (refuses_not_ok (law.above s a (omega arith)) e) ]

  pub allowed_positive : Lawful m → (s t : S) (a : ℕ) → m.step s a ≡ Ok t → 0 < a
  allowed_positive law s t a e = elim (dec_lt 0 a) [ yes h ↦ h | no h ↦ absurd (refuses_not_ok (law.below s) (let z : a ≡ 0 = omega arith in rw z at e)) ]

  -- ---- the states that a list passes

  pub passes_length : (s : S) (xs : List ℕ) (ss : List S) → Passes m s xs ss → length ss ≡ length xs + 1
  passes_length s [] ss h = ap length h
  passes_length s (a ∷ xs) ss h = ap length h.3 ∙ ap suc (passes_length h.0 xs h.1 h.4) ∙ omega arith

  -- the last of the states is the one that the list reaches
  pub passes_last : (s : S) (xs : List ℕ) (front : List S) (u : S) → Passes m s xs (front ++ (u ∷ [])) → Reaches m s xs u
  passes_last s [] front u h = (same_from_push front [] u s h).1
  passes_last s (a ∷ xs) [] u h = absurd (omega (arith, passes_length h.0 xs h.1 h.4, ap length h.3))
  passes_last s (a ∷ xs) (f ∷ front) u h =
      (h.0, h.2, passes_last h.0 xs front u (subst (λ r. Passes m h.0 xs r) (sym (same_tail h.3)) h.4))

  pub passes_push : (s u t : S) (xs : List ℕ) (ss : List S) (a : ℕ) → Passes m s xs ss → Reaches m s xs u → m.step u a ≡ Ok t → Passes m s (xs ++ (a ∷ [])) (ss ++ (t ∷ []))
  passes_push s u t [] ss a h r e = (t, t ∷ [], rw (← r) e, ap (λ l. l ++ (t ∷ [])) h, refl)
  passes_push s u t (x ∷ xs) ss a h r e =
      (h.0, h.1 ++ (t ∷ []), h.2, ap (λ l. l ++ (t ∷ [])) h.3, passes_push h.0 u t xs h.1 a h.4 (subst (λ v. Reaches m v xs u) (same_ok r.1 h.2) r.2) e)

  pub passes_pop : (s v : S) (xs : List ℕ) (front : List S) (a : ℕ) → Passes m s (xs ++ (a ∷ [])) (front ++ (v ∷ [])) → Passes m s xs front
  passes_pop s v [] front a h = (same_from_push front (s ∷ []) v h.0 (h.3 ∙ ap (λ l. s ∷ l) h.4)).0
  passes_pop s v (x ∷ xs) [] a h = absurd (omega (arith, passes_length h.0 (xs ++ (a ∷ [])) h.1 h.4, ap length h.3))
  passes_pop s v (x ∷ xs) (f ∷ front) a h =
      let rest = subst (λ r. Passes m h.0 (xs ++ (a ∷ [])) r) (sym (same_tail h.3)) h.4 in
      (h.0, front, h.2, ap (λ y. y ∷ front) (same_head h.3), passes_pop h.0 v xs front a rest)

  -- the last action was allowed in the state before it
  pub passes_step : (s : S) (xs : List ℕ) (ss : List S) (a : ℕ) → Passes m s (xs ++ (a ∷ [])) ss → (u : S) × (t : S) × Reaches m s xs u × (m.step u a ≡ Ok t)
  passes_step s [] ss a h = (s, h.0, refl, h.2)
  passes_step s (x ∷ xs) ss a h =
      let rest = passes_step h.0 xs h.1 a h.4 in
      (rest.0, rest.1, (h.0, h.2, rest.2), rest.3)
