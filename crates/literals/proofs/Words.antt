-- A word with one bit more, and words compared bit by bit. Assumes nothing.
use Rattle.std.proofs.Common.{◌≡◌, arith, ℕ, ◌^◌, ◌<◌, Bool, true, false, not, ◌&&◌, ◌||◌, ◌-◌, w64, ◌==◌, max, min, zero, suc, sym, refl, ap, ◌∙◌, bit_or, bit_and, ltb}
use Rattle.std.proofs.lemmas.Bool.{eqb-true, eqb-false, ltb-true, ltb-false}
use Rattle.std.proofs.lemmas.Nat.Bits.{bit_at_or, bit_at-pow_same, bit_at-pow_other, bit_at-lt, bit_at_not, bit_at_and, bit_at-zero, bit_at_above, same_from_bits}
use Rattle.std.specs.Int.{bit_at, bit_not}

module _ (n k i : ℕ) where
  set_by : (b : Bool) → (k == i) ≡ b → (bit_at (bit_or n (2 ^ k)) i == 1) ≡ (b || (bit_at n i == 1))
  set_by true e = ap (λ b. b == 1) (bit_at_or n (2 ^ k) i ∙ with_one)
    where
      with_one : max (bit_at n i) (bit_at (2 ^ k) i) ≡ 1
      with_one = let h : bit_at (2 ^ k) i ≡ 1 = ap (λ j. bit_at (2 ^ k) j) (sym (eqb-true k i e)) ∙ bit_at-pow_same k in let below : bit_at n i < 2 = bit_at-lt n i in omega arith
  set_by false e = ap (λ b. b == 1) (bit_at_or n (2 ^ k) i ∙ with_zero)
    where
      with_zero : max (bit_at n i) (bit_at (2 ^ k) i) ≡ bit_at n i
      with_zero = let h : bit_at (2 ^ k) i ≡ 0 = bit_at-pow_other k i (λ f. eqb-false k i e (sym f)) in omega arith

  pub set_bit : (bit_at (bit_or n (2 ^ k)) i == 1) ≡ ((k == i) || (bit_at n i == 1))
  set_bit = set_by (k == i) refl ∙ refl

pub zero_from : (n i : ℕ) → (bit_at n i ≡ 1 → ⊥) → bit_at n i ≡ 0
zero_from n i f = by_value (bit_at n i) (bit_at-lt n i) f
  where
    by_value : (x : ℕ) → x < 2 → (x ≡ 1 → ⊥) → x ≡ 0
    by_value x u g = omega (arith, g)

-- what two bits say of the lesser
none_of : (x y : ℕ) → x < 2 → y < 2 → (x ≡ 1 → y ≡ 1 → ⊥) → min x y ≡ 0
none_of zero y u v f = omega arith
none_of (suc x) zero u v f = omega arith
none_of (suc x) (suc y) u v f = absurd (f (omega arith) (omega arith))

first_of_two : (x y : ℕ) → x < 2 → y < 2 → (x ≡ 1 → y ≡ 1) → min x y ≡ x
first_of_two zero y u v f = omega arith
first_of_two (suc x) y u v f = let g : y ≡ 1 = f (omega arith) in omega arith

module _ (a b : ℕ) where
  -- two words have no bit in common
  pub none_shared : bit_and a b ≡ 0 → (i : ℕ) → bit_at a i ≡ 1 → bit_at b i ≡ 1 → ⊥
  none_shared e i f g =
      let both : bit_at (bit_and a b) i ≡ min (bit_at a i) (bit_at b i) = bit_at_and a b i in
      let none : bit_at (bit_and a b) i ≡ 0 = ap (λ n. bit_at n i) e ∙ bit_at-zero i in
      omega arith

  module _ (within : a < 2 ^ 64) where
    pub none_shared_from : ((i : ℕ) → i < 64 → bit_at a i ≡ 1 → bit_at b i ≡ 1 → ⊥) → bit_and a b ≡ 0
    none_shared_from apart = same_from_bits (bit_and a b) 0 (λ i. bit_at_and a b i ∙ each i (ltb i 64) refl ∙ sym (bit_at-zero i))
      where
        each : (i : ℕ) (t : Bool) → ltb i 64 ≡ t → min (bit_at a i) (bit_at b i) ≡ 0
        each i true e = none_of (bit_at a i) (bit_at b i) (bit_at-lt a i) (bit_at-lt b i) (apart i (ltb-true i 64 e))
        each i false e = let above : bit_at a i ≡ 0 = bit_at_above a 64 i within (ltb-false i 64 e) in omega arith

    -- each bit of the first word is in the second
    pub all_shared_from : ((i : ℕ) → i < 64 → bit_at a i ≡ 1 → bit_at b i ≡ 1) → bit_and a b ≡ a
    all_shared_from each_in = same_from_bits (bit_and a b) a (λ i. bit_at_and a b i ∙ each i (ltb i 64) refl)
      where
        each : (i : ℕ) (t : Bool) → ltb i 64 ≡ t → min (bit_at a i) (bit_at b i) ≡ bit_at a i
        each i true e = first_of_two (bit_at a i) (bit_at b i) (bit_at-lt a i) (bit_at-lt b i) (each_in i (ltb-true i 64 e))
        each i false e = let above : bit_at a i ≡ 0 = bit_at_above a 64 i within (ltb-false i 64 e) in omega arith

  pub all_shared : bit_and a b ≡ a → (i : ℕ) → bit_at a i ≡ 1 → bit_at b i ≡ 1
  all_shared e i f =
      let both : bit_at (bit_and a b) i ≡ min (bit_at a i) (bit_at b i) = bit_at_and a b i in
      let same : bit_at (bit_and a b) i ≡ bit_at a i = ap (λ n. bit_at n i) e in
      let below : bit_at b i < 2 = bit_at-lt b i in
      omega arith

-- the test of one bit of a sum, of a common part and of a complement
greater_is_one : (x y : ℕ) → x < 2 → y < 2 → (max x y == 1) ≡ ((x == 1) || (y == 1))
greater_is_one zero zero u v = refl
greater_is_one zero (suc zero) u v = refl
greater_is_one (suc zero) zero u v = refl
greater_is_one (suc zero) (suc zero) u v = refl
greater_is_one (suc (suc x)) y u v = absurd (omega arith)
greater_is_one zero (suc (suc y)) u v = absurd (omega arith)
greater_is_one (suc zero) (suc (suc y)) u v = absurd (omega arith)

lesser_is_one : (x y : ℕ) → x < 2 → y < 2 → (min x y == 1) ≡ ((x == 1) && (y == 1))
lesser_is_one zero zero u v = refl
lesser_is_one zero (suc zero) u v = refl
lesser_is_one (suc zero) zero u v = refl
lesser_is_one (suc zero) (suc zero) u v = refl
lesser_is_one (suc (suc x)) y u v = absurd (omega arith)
lesser_is_one zero (suc (suc y)) u v = absurd (omega arith)
lesser_is_one (suc zero) (suc (suc y)) u v = absurd (omega arith)

other_is_one : (x : ℕ) → x < 2 → (1 - x == 1) ≡ not (x == 1)
other_is_one zero u = refl
other_is_one (suc zero) u = refl
other_is_one (suc (suc x)) u = absurd (omega arith)

pub or_bit : (a b i : ℕ) → (bit_at (bit_or a b) i == 1) ≡ ((bit_at a i == 1) || (bit_at b i == 1))
or_bit a b i = ap (λ n. n == 1) (bit_at_or a b i) ∙ greater_is_one (bit_at a i) (bit_at b i) (bit_at-lt a i) (bit_at-lt b i)

pub and_bit : (a b i : ℕ) → (bit_at (bit_and a b) i == 1) ≡ ((bit_at a i == 1) && (bit_at b i == 1))
and_bit a b i = ap (λ n. n == 1) (bit_at_and a b i) ∙ lesser_is_one (bit_at a i) (bit_at b i) (bit_at-lt a i) (bit_at-lt b i)

pub not_bit : (n i : ℕ) → n < 2 ^ 64 → i < 64 → (bit_at (bit_not w64 n) i == 1) ≡ not (bit_at n i == 1)
not_bit n i within u = ap (λ m. m == 1) (bit_at_not w64 n i within u) ∙ other_is_one (bit_at n i) (bit_at-lt n i)
