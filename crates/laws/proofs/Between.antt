-- Every state that B allows lies between each floor and each ceiling; where the floors have settled and the ceiling is consistent, it
-- is the one state that B allows. Assumes nothing.
use Rattle.std.proofs.Common.{◌≡◌, ℕ, zero, suc, ◌+◌, ◌<◌, ◌≤◌, Bool, true, false, not, nat_lt, ◌&&◌, ◌==◌, ◌⊎◌, List, [], ◌∷◌, Some, None, sym, refl, ap, ◌∙◌, subst, inl, inr, arith}
use native.Mathlib.Decide.{dec_lt}
use Rattle.std.proofs.lemmas.Bool.{and_parts, and_from, ltb-true, lt-ltb}
use Rattle.literals.specs.Literal.{opposite, same}
use Rattle.literals.specs.declared.literal.Literal.{Literal}
use Rattle.literals.proofs.Same.{opposite_twice, same_is}
use Rattle.laws.specs.Rows.{Literals, Row, impossible, effect, state, Within, lies_in, Closed, Closure, Unforbidden, closure, effects}
use Rattle.laws.specs.Step.{Total, Allows, kept, joined, against, floor, ceiling, Consistent, Heads}
use Rattle.laws.proofs.Closures.{or_left, or_right, or_cases, false_or_true, true_not_false, within_trans, lies_more, closure_is, closure_more, closure_in}

not_false : (b : Bool) → b ≡ false → not b ≡ true
not_false b e = ap not e

not_true : (b : Bool) → not b ≡ true → b ≡ false
not_true true e = absurd (true_not_false e refl)
not_true false e = refl

-- a set with fewer literals has fewer bodies
unforbidden_less : (rows : List Row) (X Y : Literals) → Within X Y → Unforbidden rows Y → Unforbidden rows X
unforbidden_less [] X Y f u = tt
unforbidden_less (impossible a body ∷ rows) X Y f u = unforbidden_less rows X Y f u
unforbidden_less (effect a h body ∷ rows) X Y f u = unforbidden_less rows X Y f u
unforbidden_less (state (Some h) body ∷ rows) X Y f u = unforbidden_less rows X Y f u
unforbidden_less (state None body ∷ rows) X Y f u =
    let no : lies_in body X ≡ false = elim (false_or_true (lies_in body X)) [ inl e ↦ e | inr e ↦ absurd (true_not_false (lies_more body X Y f e) u.0) ] in
    (no, unforbidden_less rows X Y f u.1)

-- what is kept against more is less
kept_less : (s X Y : Literals) → Within X Y → Within (kept s Y) (kept s X)
kept_less s X Y f l e =
    let p = and_parts (s l) (not (Y (opposite l))) e in
    let out : X (opposite l) ≡ false = elim (false_or_true (X (opposite l))) [ inl x ↦ x | inr x ↦ absurd (true_not_false (f (opposite l) x) (not_true (Y (opposite l)) p.1)) ] in
    and_from (s l) (not (X (opposite l))) p.0 (not_false (X (opposite l)) out)

joined_more : (X Y Z : Literals) → Within Y Z → Within (joined X Y) (joined X Z)
joined_more X Y Z f l e = elim (or_cases (X l) (Y l) e) [ inl x ↦ or_left (X l) (Z l) x | inr y ↦ or_right (X l) (Z l) (f l y) ]

joined_first : (X Y : Literals) → Within X (joined X Y)
joined_first X Y l e = or_left (X l) (Y l) e

joined_second : (X Y : Literals) → Within Y (joined X Y)
joined_second X Y l e = or_right (X l) (Y l) e

joined_within : (X Y Z : Literals) → Within X Z → Within Y Z → Within (joined X Y) Z
joined_within X Y Z f g l e = elim (or_cases (X l) (Y l) e) [ inl x ↦ f l x | inr y ↦ g l y ]

module _ (rows : List Row) (E s : Literals) where
  -- the closure against more is less
  against_less : (X Y : Literals) → Within X Y → Within (against rows E s Y) (against rows E s X)
  against_less X Y f =
      closure_more rows (joined E (kept s Y)) (joined E (kept s X)) (against rows E s Y) (against rows E s X)
      (joined_more E (kept s Y) (kept s X) (kept_less s X Y f)) (closure_is rows (joined E (kept s Y))) (closure_is rows (joined E (kept s X)))

  first_in : (X : Literals) → Within (closure rows E) (against rows E s X)
  first_in X = closure_more rows E (joined E (kept s X)) (closure rows E) (against rows E s X) (joined_first E (kept s X)) (closure_is rows E) (closure_is rows (joined E (kept s X)))

  -- floors grow
  pub floors_grow : (k : ℕ) → Within (floor rows E s k) (floor rows E s (suc k))
  floors_grow zero = first_in (ceiling rows E s zero)
  floors_grow (suc k) =
      against_less (ceiling rows E s (suc k)) (ceiling rows E s k) (against_less (floor rows E s k) (floor rows E s (suc k)) (floors_grow k))

  -- each floor is below each ceiling
  below_by : (n i j : ℕ) → i + j ≤ n → Within (floor rows E s i) (ceiling rows E s j)
  below_by n zero j h = first_in (floor rows E s j)
  below_by zero (suc i) j h = absurd (omega (arith, h))
  below_by (suc n) (suc i) j h =
      against_less (floor rows E s j) (ceiling rows E s i) (below_by n j i (omega (arith, h)))

  floor_below : (k : ℕ) → Within (floor rows E s k) (ceiling rows E s k)
  floor_below k = below_by (k + k) k k (omega arith)

module _ (n : ℕ) (rows : List Row) (a : ℕ) (s : Literals) (total : Total n s) where
  known : (S : Literals) → Total n S → (l : Literal) → S l ≡ true → l.place < n
  known S t l e = elim (dec_lt l.place n) [ yes h ↦ h | no h ↦ absurd (true_not_false e (t.none l (omega arith))) ]

  abbrev E : Literals
  E = effects rows a s

  module _ (t : Literals) (allowed : Allows n rows a s t) where
    -- a floor below t makes a ceiling above it, and a ceiling above t makes a floor below it
    shared : Literals
    shared l = s l && t l

    above : (X : Literals) → Within X t → Within t (against rows E s X)
    above X f =
        closure_more rows (joined E (λ l. s l && t l)) (joined E (kept s X)) t (against rows E s X)
        (joined_more E (λ l. s l && t l) (kept s X) stays) allowed.closure (closure_is rows (joined E (kept s X)))
      where
        stays : Within (λ l. s l && t l) (kept s X)
        stays l e =
            let p = and_parts (s l) (t l) e in
            let other : t (opposite l) ≡ false = allowed.state.total.one l (known t allowed.state.total l p.1) ∙ ap not p.1 in
            let out : X (opposite l) ≡ false = elim (false_or_true (X (opposite l))) [ inl x ↦ x | inr x ↦ absurd (true_not_false (f (opposite l) x) other) ] in
            and_from (s l) (not (X (opposite l))) p.0 (not_false (X (opposite l)) out)

    below : (X : Literals) → Within t X → Within (against rows E s X) t
    below X f =
        closure_more rows (joined E (kept s X)) (joined E (λ l. s l && t l)) (against rows E s X) t
        (joined_more E (kept s X) (λ l. s l && t l) stays) (closure_is rows (joined E (kept s X))) allowed.closure
      where
        stays : Within (kept s X) (λ l. s l && t l)
        stays l e =
            let p = and_parts (s l) (not (X (opposite l))) e in
            let other : t (opposite l) ≡ false = elim (false_or_true (t (opposite l))) [ inl x ↦ x | inr x ↦ absurd (true_not_false (f (opposite l) x) (not_true (X (opposite l)) p.1)) ] in
            let here : t l ≡ true = elim (false_or_true (t l)) [ inr x ↦ x | inl x ↦ absurd (true_not_false (allowed.state.total.one l (known s total l p.0) ∙ ap not x) other) ] in
            and_from (s l) (t l) p.0 here

    pub between : (k : ℕ) → Within (floor rows E s k) t × Within t (ceiling rows E s k)
    between zero =
        let low = closure_more rows E (joined E (λ l. s l && t l)) (closure rows E) t (joined_first E (λ l. s l && t l)) (closure_is rows E) allowed.closure in
        (low, above (closure rows E) low)
    between (suc k) =
        let low = below (ceiling rows E s k) (between k).1 in
        (low, above (floor rows E s (suc k)) low)

    -- so each floor is consistent and has no forbidden body
    pub floor_consistent : (k : ℕ) → Consistent (floor rows E s k)
    floor_consistent k l e f =
        let low = (between k).0 in
        let here = low l e in
        true_not_false (low (opposite l) f) (allowed.state.total.one l (known t allowed.state.total l here) ∙ ap not here)

    pub floor_unforbidden : (k : ℕ) → Unforbidden rows (floor rows E s k)
    floor_unforbidden k = unforbidden_less rows (floor rows E s k) t (between k).0 allowed.state.unforbidden

-- ---- where all heads are known, so is what is closed

module _ (n : ℕ) where
  abbrev known_only : Literals
  known_only l = nat_lt l.place n

  lt_true : (l : Literal) → l.place < n → known_only l ≡ true
  lt_true l h = lt-ltb l.place n h

  lt_from : (l : Literal) → known_only l ≡ true → l.place < n
  lt_from l e = ltb-true l.place n e

  known_closed : (rows : List Row) → Heads n rows → Closed rows known_only
  known_closed [] h = tt
  known_closed (impossible a body ∷ rows) h = known_closed rows h
  known_closed (effect a k body ∷ rows) h = known_closed rows h.1
  known_closed (state (Some k) body ∷ rows) h = ((λ _. lt_true k h.0), known_closed rows h.1)
  known_closed (state None body ∷ rows) h = known_closed rows h

  effects_known : (rows : List Row) (a : ℕ) (s : Literals) → Heads n rows → Within (effects rows a s) known_only
  effects_known [] a s h l e = absurd (true_not_false e refl)
  effects_known (impossible b body ∷ rows) a s h l e = effects_known rows a s h l e
  effects_known (effect b k body ∷ rows) a s h l e =
      elim (or_cases (b == a && (lies_in body s && same k l)) (effects rows a s l) e) [
        | inl here ↦ subst (λ j. known_only j ≡ true) (same_is k l (and_parts (lies_in body s) (same k l) (and_parts (b == a) (lies_in body s && same k l) here).1).1) (lt_true k h.0)
        | inr later ↦ effects_known rows a s h.1 l later
      ]
  effects_known (state (Some k) body ∷ rows) a s h l e = effects_known rows a s h.1 l e
  effects_known (state None body ∷ rows) a s h l e = effects_known rows a s h l e

module _ (n : ℕ) (rows : List Row) (a : ℕ) (s : Literals) (total : Total n s) (heads : Heads n rows) (k : ℕ) where
  abbrev F : Literals
  F = floor rows (effects rows a s) s k

  abbrev C : Literals
  C = ceiling rows (effects rows a s) s k

  abbrev G : Literals
  G = floor rows (effects rows a s) s (suc k)

  ceiling_closure : Closure rows (joined (effects rows a s) (kept s F)) C
  ceiling_closure = closure_is rows (joined (effects rows a s) (kept s F))

  next_closure : Closure rows (joined (effects rows a s) (kept s C)) G
  next_closure = closure_is rows (joined (effects rows a s) (kept s C))

  effects_in_next : Within (effects rows a s) G
  effects_in_next l e = next_closure.contains l (joined_first (effects rows a s) (kept s C) l e)

  s_known : (l : Literal) → s l ≡ true → l.place < n
  s_known l e = elim (dec_lt l.place n) [ yes h ↦ h | no h ↦ absurd (true_not_false e (total.none l (omega arith))) ]

  -- the ceiling has no literal of a fluent beyond the first n
  ceiling_known : (l : Literal) → C l ≡ true → l.place < n
  ceiling_known l e =
      lt_from n l (ceiling_closure.least (known_only n)
      (joined_within (effects rows a s) (kept s F) (known_only n) (effects_known n rows a s heads) (λ j q. lt_true n j (s_known j (and_parts (s j) (not (F (opposite j))) q).0)))
      (known_closed n rows heads) l e)

  module _ (settled : Within G F) (consistent : Consistent C) where
    opposite_out : (l : Literal) → C l ≡ true → C (opposite l) ≡ false
    opposite_out l e = elim (false_or_true (C (opposite l))) [ inl x ↦ x | inr x ↦ absurd (consistent l e x) ]

    -- the ceiling is in the next floor, and so in this one
    ceiling_next : Within C G
    ceiling_next =
        closure_in rows (joined (effects rows a s) (kept s F)) (joined (effects rows a s) (kept s C)) C G
        (joined_within (effects rows a s) (kept s F) G effects_in_next stays) ceiling_closure next_closure
      where
        stays : Within (kept s F) G
        stays l e =
            let here : C l ≡ true = ceiling_closure.contains l (joined_second (effects rows a s) (kept s F) l e) in
            let out = opposite_out l here in
            next_closure.contains l (joined_second (effects rows a s) (kept s C) l (and_from (s l) (not (C (opposite l))) (and_parts (s l) (not (F (opposite l))) e).0 (not_false (C (opposite l)) out)))

    ceiling_in_floor : Within C F
    ceiling_in_floor = within_trans C G F ceiling_next settled

    floor_in_ceiling : Within F C
    floor_in_ceiling = floor_below rows (effects rows a s) s k

    -- a literal of s whose opposite is out of the floor is in the ceiling
    kept_in : (l : Literal) → s l ≡ true → F (opposite l) ≡ false → C l ≡ true
    kept_in l e out = ceiling_closure.contains l (joined_second (effects rows a s) (kept s F) l (and_from (s l) (not (F (opposite l))) e (not_false (F (opposite l)) out)))

    -- the ceiling has each fluent's literal or its opposite
    one_of_two : (l : Literal) → l.place < n → C l ≡ false → C (opposite l) ≡ true
    one_of_two l h out = by_state (false_or_true (s l))
      where
        not_in_floor : F l ≡ false
        not_in_floor = elim (false_or_true (F l)) [ inl x ↦ x | inr x ↦ absurd (true_not_false (floor_in_ceiling l x) out) ]

        by_state : (s l ≡ false) ⊎ (s l ≡ true) → C (opposite l) ≡ true
        by_state (inr e) = elim (false_or_true (F (opposite l))) [
          | inr x ↦ floor_in_ceiling (opposite l) x
          | inl x ↦ absurd (true_not_false (kept_in l e x) out)
        ]
        by_state (inl e) = kept_in (opposite l) (total.one l h ∙ ap not e) (ap F (opposite_twice l) ∙ not_in_floor)

    ceiling_total : Total n C
    ceiling_total =
        record {
          one = λ l h. elim (false_or_true (C l)) [
            | inr e ↦ opposite_out l e ∙ sym (ap not e)
            | inl e ↦ one_of_two l h e ∙ sym (ap not e)
          ];
          none = λ l h. elim (false_or_true (C l)) [ inl x ↦ x | inr x ↦ absurd (omega (arith, ceiling_known l x, h)) ];
        }

    module _ (unforbidden : Unforbidden rows F) where
      -- B allows the ceiling
      pub ceiling_allowed : Allows n rows a s C
      ceiling_allowed =
          record {
            state = record { total = ceiling_total; closed = ceiling_closure.closed; unforbidden = unforbidden_less rows C F ceiling_in_floor unforbidden };
            closure = record { contains = contains; closed = ceiling_closure.closed; least = least };
          }
        where
          contains : Within (joined (effects rows a s) (λ l. s l && C l)) C
          contains l e = elim (or_cases (effects rows a s l) (s l && C l) e) [
            | inl x ↦ ceiling_closure.contains l (joined_first (effects rows a s) (kept s F) l x)
            | inr x ↦ (and_parts (s l) (C l) x).1
          ]

          shares : Within (kept s C) (λ l. s l && C l)
          shares l e =
              let p = and_parts (s l) (not (C (opposite l))) e in
              let out : C (opposite l) ≡ false = not_true (C (opposite l)) p.1 in
              let here : C l ≡ true = elim (false_or_true (C l)) [ inr x ↦ x | inl x ↦ absurd (true_not_false (one_of_two l (s_known l p.0) x) out) ] in
              and_from (s l) (C l) p.0 here

          least : (Y : Literals) → Within (joined (effects rows a s) (λ l. s l && C l)) Y → Closed rows Y → Within C Y
          least Y g d = within_trans C G Y ceiling_next
              (next_closure.least Y (within_trans (joined (effects rows a s) (kept s C)) (joined (effects rows a s) (λ l. s l && C l)) Y (joined_more (effects rows a s) (kept s C) (λ l. s l && C l) shares) g) d)

      -- and no other
      pub ceiling_only : (t : Literals) → Allows n rows a s t → Within t C × Within C t
      ceiling_only t allowed =
          let around = between n rows a s total t allowed k in
          (around.1, within_trans C F t ceiling_in_floor around.0)
