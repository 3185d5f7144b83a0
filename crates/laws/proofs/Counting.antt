-- How many literals a set has, and that floors grow only so often. Assumes nothing.
use Rattle.std.proofs.Common.{◌≡◌, ℕ, zero, suc, ◌+◌, ◌<◌, ◌≤◌, Bool, true, false, refl, ap, subst, arith}
use native.Mathlib.Decide.{dec_lt}
use Rattle.std.specs.Coded.{le_prop}
use Rattle.literals.specs.declared.literal.Literal.{Literal}
use Rattle.laws.specs.Rows.{Literals, Within}
use Rattle.laws.proofs.Closures.{true_not_false}

abbrev one : Bool → ℕ
one true = 1
one false = 0

abbrev at_by : (X : Literals) (p : ℕ) (b : Bool) → Dec (p < 64) → ℕ
at_by X p b (yes h) = one (X (record { place = p; holds = b; within = h }))
at_by X p b (no h) = 0

-- 1 where the set has the literal at a place
abbrev at : Literals → ℕ → Bool → ℕ
at X p b = at_by X p b (dec_lt p 64)

-- how many literals it has at the first k places
abbrev pub count : ℕ → Literals → ℕ
count zero X = 0
count (suc k) X = (at X k true + at X k false) + count k X

one_more : (x y : Bool) → (x ≡ true → y ≡ true) → one x ≤ one y
one_more true true f = omega arith
one_more true false f = absurd (true_not_false (f refl) refl)
one_more false true f = omega arith
one_more false false f = omega arith

one_few : (x : Bool) → one x ≤ 1
one_few true = omega arith
one_few false = omega arith

one_is : (x : Bool) → 1 ≤ one x → x ≡ true
one_is true h = refl
one_is false h = absurd (omega (arith, h))

at_more : (X Y : Literals) (p : ℕ) (b : Bool) (d : Dec (p < 64)) → Within X Y → at_by X p b d ≤ at_by Y p b d
at_more X Y p b (yes h) f = one_more (X (record { place = p; holds = b; within = h })) (Y (record { place = p; holds = b; within = h })) (f (record { place = p; holds = b; within = h }))
at_more X Y p b (no h) f = omega arith

at_few : (X : Literals) (p : ℕ) (b : Bool) (d : Dec (p < 64)) → at_by X p b d ≤ 1
at_few X p b (yes h) = one_few (X (record { place = p; holds = b; within = h }))
at_few X p b (no h) = omega arith

at_is : (X : Literals) (l : Literal) (d : Dec (l.place < 64)) → at_by X l.place l.holds d ≡ one (X l)
at_is X l (yes h) = ap (λ (w : l.place < 64). one (X (record { place = l.place; holds = l.holds; within = w }))) (le_prop h l.within)
at_is X l (no h) = absurd (h l.within)

pub count_more : (k : ℕ) (X Y : Literals) → Within X Y → count k X ≤ count k Y
count_more zero X Y f = omega arith
count_more (suc k) X Y f = omega (arith, at_more X Y k true (dec_lt k 64) f, at_more X Y k false (dec_lt k 64) f, count_more k X Y f)

pub count_few : (k : ℕ) (X : Literals) → count k X ≤ k + k
count_few zero X = omega arith
count_few (suc k) X = omega (arith, at_few X k true (dec_lt k 64), at_few X k false (dec_lt k 64), count_few k X)

-- a set with as many literals as one around it has all of that
count_same : (k : ℕ) (X Y : Literals) → Within X Y → count k Y ≤ count k X → (l : Literal) → l.place < k → Y l ≡ true → X l ≡ true
count_same zero X Y f h l p e = absurd (omega (arith, p))
count_same (suc k) X Y f h l p e =
    elim (dec_lt l.place k) [
      | yes lower ↦ count_same k X Y f (omega (arith, h, at_more X Y k true (dec_lt k 64) f, at_more X Y k false (dec_lt k 64) f)) l lower e
      | no upper ↦ here (omega (arith, p, upper)) l.holds refl
    ]
  where
    -- both literals at the place are in X where they are in Y
    each : (at Y k true ≤ at X k true) × (at Y k false ≤ at X k false)
    each =
        let a = at_more X Y k true (dec_lt k 64) f in
        let b = at_more X Y k false (dec_lt k 64) f in
        let c = count_more k X Y f in
        (omega (arith, h, a, b, c), omega (arith, h, a, b, c))

    each_at : (b : Bool) → at Y k b ≤ at X k b
    each_at true = each.0
    each_at false = each.1

    here : l.place ≡ k → (b : Bool) → l.holds ≡ b → X l ≡ true
    here q b r =
        let in_y : at Y k l.holds ≡ one (Y l) = subst (λ j. at Y j l.holds ≡ one (Y l)) q (at_is Y l (dec_lt l.place 64)) in
        let in_x : at X k l.holds ≡ one (X l) = subst (λ j. at X j l.holds ≡ one (X l)) q (at_is X l (dec_lt l.place 64)) in
        let full : one (Y l) ≡ 1 = ap one e in
        one_is (X l) (omega (arith, each_at l.holds, in_y, in_x, full))

-- a set that is larger has more literals
pub count_less : (X Y : Literals) → Within X Y → (Within Y X → ⊥) → count 64 X < count 64 Y
count_less X Y f other = elim (dec_lt (count 64 X) (count 64 Y)) [ yes h ↦ h | no h ↦ absurd (other (λ l e. count_same 64 X Y f (omega (arith, h)) l l.within e)) ]
