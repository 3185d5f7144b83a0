-- One bit of words that are put together. Assumes nothing.
use Rattle.std.proofs.Common.{◌≡◌, ℕ, zero, suc, ◌+◌, ◌-◌, ◌*◌, ◌^◌, ◌%◌, ◌<◌, ◌≤◌, min, max, Bool, true, false, not, nat_lt, ◌&&◌, ◌||◌, ◌==◌, sym, refl, ap, ◌∙◌, subst, arith, w64, bit_and, bit_or}
use Rattle.std.proofs.lemmas.Bool.{lt-ltb, le-ltb, ltb-true, ltb-false}
use Rattle.std.proofs.lemmas.Nat.Bits.{bit_at_and, bit_at_or, bit_at_not, bit_at-lt, bit_at_ones, bit_at_ones_above}
use Rattle.std.proofs.Math.Bool.{and_comm}
use Rattle.std.specs.Int.{bit_at, bit_not}
use Rattle.std.specs.Prelude.{if◌then◌else◌}
use Rattle.literals.specs.Literal.{agrees, opposite}
use Rattle.literals.specs.Set.{has}
use Rattle.literals.specs.State.{is_true, lowest}
use Rattle.literals.specs.declared.literal.Literal.{Literal}
use Rattle.literals.specs.declared.set.LiteralSet.{LiteralSet}
use Rattle.literals.specs.declared.state.State.{State}

max_is : (x y : ℕ) → x < 2 → y < 2 → (max x y == 1) ≡ ((x == 1) || (y == 1))
max_is zero zero h k = refl
max_is zero (suc zero) h k = refl
max_is (suc zero) zero h k = refl
max_is (suc zero) (suc zero) h k = refl
max_is (suc (suc x)) y h k = absurd (omega (arith, h))
max_is zero (suc (suc y)) h k = absurd (omega (arith, k))
max_is (suc zero) (suc (suc y)) h k = absurd (omega (arith, k))

min_is : (x y : ℕ) → x < 2 → y < 2 → (min x y == 1) ≡ ((x == 1) && (y == 1))
min_is zero zero h k = refl
min_is zero (suc zero) h k = refl
min_is (suc zero) zero h k = refl
min_is (suc zero) (suc zero) h k = refl
min_is (suc (suc x)) y h k = absurd (omega (arith, h))
min_is zero (suc (suc y)) h k = absurd (omega (arith, k))
min_is (suc zero) (suc (suc y)) h k = absurd (omega (arith, k))

less_is : (x : ℕ) → x < 2 → (1 - x == 1) ≡ not (x == 1)
less_is zero h = refl
less_is (suc zero) h = refl
less_is (suc (suc x)) h = absurd (omega (arith, h))

pub or_bit : (a b i : ℕ) → (bit_at (bit_or a b) i == 1) ≡ ((bit_at a i == 1) || (bit_at b i == 1))
or_bit a b i = ap (λ x. x == 1) (bit_at_or a b i) ∙ max_is (bit_at a i) (bit_at b i) (bit_at-lt a i) (bit_at-lt b i)

pub and_bit : (a b i : ℕ) → (bit_at (bit_and a b) i == 1) ≡ ((bit_at a i == 1) && (bit_at b i == 1))
and_bit a b i = ap (λ x. x == 1) (bit_at_and a b i) ∙ min_is (bit_at a i) (bit_at b i) (bit_at-lt a i) (bit_at-lt b i)

pub not_bit : (a i : ℕ) → a < 18446744073709551616 → i < 64 → (bit_at (18446744073709551615 - a) i == 1) ≡ not (bit_at a i == 1)
not_bit a i h k = ap (λ x. x == 1) (bit_at_not w64 a i h k) ∙ less_is (bit_at a i) (bit_at-lt a i)

-- the bits of 2 ^ k - 1
pub ones_bit : (k i : ℕ) → (bit_at (2 ^ k - 1) i == 1) ≡ nat_lt i k
ones_bit k i = by_value (nat_lt i k) refl
  where
    by_value : (b : Bool) → nat_lt i k ≡ b → (bit_at (2 ^ k - 1) i == 1) ≡ b
    by_value true e = ap (λ x. x == 1) (bit_at_ones k i (ltb-true i k e))
    by_value false e = ap (λ x. x == 1) (bit_at_ones_above k i (ltb-false i k e))

-- ---- sets by their words

pub joined_has : (s t : LiteralSet) (l : Literal) → has (record { holds = bit_or s.holds t.holds; fails = bit_or s.fails t.fails }) l ≡ (has s l || has t l)
joined_has s t l = by_value l.holds
  where
    by_value : (b : Bool) → (bit_at (if b then bit_or s.holds t.holds else bit_or s.fails t.fails) l.place == 1) ≡ ((bit_at (if b then s.holds else s.fails) l.place == 1) || (bit_at (if b then t.holds else t.fails) l.place == 1))
    by_value true = or_bit s.holds t.holds l.place
    by_value false = or_bit s.fails t.fails l.place

-- h and f are the words of s without those of t crosswise
pub kept_has : (s t : LiteralSet) (h f : ℕ) (l : Literal) → ((i : ℕ) → i < 64 → (bit_at h i == 1) ≡ ((bit_at s.holds i == 1) && not (bit_at t.fails i == 1))) → ((i : ℕ) → i < 64 → (bit_at f i == 1) ≡ ((bit_at s.fails i == 1) && not (bit_at t.holds i == 1))) → has (record { holds = h; fails = f }) l ≡ (has s l && not (has t (opposite l)))
kept_has s t h f l first second = by_value l.holds
  where
    by_value : (b : Bool) → (bit_at (if b then h else f) l.place == 1) ≡ ((bit_at (if b then s.holds else s.fails) l.place == 1) && not (bit_at (if not b then t.holds else t.fails) l.place == 1))
    by_value true = first l.place l.within
    by_value false = second l.place l.within

-- m is the word of the first n fluents, and f what it has that a state has not
pub literals_has : (s : State) (n m f : ℕ) (l : Literal) → ((i : ℕ) → i < 64 → (bit_at m i == 1) ≡ nat_lt i n) → ((i : ℕ) → i < 64 → (bit_at f i == 1) ≡ ((bit_at m i == 1) && not (bit_at s.bits i == 1))) → has (record { holds = bit_and s.bits m; fails = f }) l ≡ (nat_lt l.place n && is_true s l)
literals_has s n m f l mask rest = by_value l.holds
  where
    by_value : (b : Bool) → (bit_at (if b then bit_and s.bits m else f) l.place == 1) ≡ (nat_lt l.place n && agrees b (bit_at s.bits l.place == 1))
    by_value true = and_bit s.bits m l.place ∙ and_comm (bit_at s.bits l.place == 1) (bit_at m l.place == 1) ∙ ap (λ b. b && (bit_at s.bits l.place == 1)) (mask l.place l.within)
    by_value false = rest l.place l.within ∙ ap (λ b. b && not (bit_at s.bits l.place == 1)) (mask l.place l.within)

-- the bits of the word of the first fluents
pub lowest_bit : (n i : ℕ) → i < 64 → (bit_at (lowest n) i == 1) ≡ nat_lt i n
lowest_bit n i h = ones_bit (min n 64) i ∙ by_value (nat_lt i n) refl
  where
    by_value : (b : Bool) → nat_lt i n ≡ b → nat_lt i (min n 64) ≡ b
    by_value true e = lt-ltb i (min n 64) (let below : i < n = ltb-true i n e in omega (arith, below, h))
    by_value false e = le-ltb i (min n 64) (let above : n ≤ i = ltb-false i n e in omega (arith, above))
