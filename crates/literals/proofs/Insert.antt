-- A set with one literal more. Assumes nothing.
use Rattle.std.proofs.Common.{◌≡◌, ℕ, ◌*◌, ◌^◌, ◌%◌, ◌<◌, Bool, true, false, ◌&&◌, ◌||◌, ◌==◌, sym, refl, ap, ◌∙◌, bit_or}
use Rattle.std.proofs.lemmas.Nat.{one_shl}
use Rattle.std.specs.Int.{bit_at}
use Rattle.std.specs.Prelude.{if◌then◌else◌}
use Rattle.literals.specs.Literal.{same}
use Rattle.literals.specs.Set.{has, insert}
use Rattle.literals.specs.declared.literal.Literal.{Literal}
use Rattle.literals.specs.declared.set.LiteralSet.{LiteralSet}
use Rattle.literals.proofs.Words.{set_bit}

and_true : (b : Bool) → b ≡ (b && true)
and_true true = refl
and_true false = refl

and_false : (b : Bool) → false ≡ (b && false)
and_false true = refl
and_false false = refl

module _ (s : LiteralSet) (p q : ℕ) (u : p < 64) (v : q < 64) where
  -- the literals at p and q, by what they say
  abbrev at_p : Bool → Literal
  at_p b = record { place = p; holds = b; within = u }

  abbrev at_q : Bool → Literal
  at_q b = record { place = q; holds = b; within = v }

  by_parts : (b c : Bool) → has (insert s (at_p b)) (at_q c) ≡ (same (at_p b) (at_q c) || has s (at_q c))
  by_parts true true = set_bit s.holds p q ∙ ap (λ b. b || (bit_at s.holds q == 1)) (and_true (p == q))
  by_parts true false = ap (λ b. b || (bit_at s.fails q == 1)) (and_false (p == q))
  by_parts false true = ap (λ b. b || (bit_at s.holds q == 1)) (and_false (p == q))
  by_parts false false = set_bit s.fails p q ∙ ap (λ b. b || (bit_at s.fails q == 1)) (and_true (p == q))

pub has_insert : (s : LiteralSet) (l k : Literal) → has (insert s l) k ≡ (same l k || has s k)
has_insert s l k = by_parts s l.place k.place l.within k.within l.holds k.holds

-- the words that the code makes, where it reads the place as p
module _ (s : LiteralSet) (l : Literal) (p : ℕ) (is : p ≡ l.place) (within : p < 64) where
  bit_is : 1 * 2 ^ p % 18446744073709551616 ≡ 2 ^ l.place
  bit_is = one_shl p 64 within ∙ ap (λ j. 2 ^ j) is

  pub insert_true : l.holds ≡ true → record { holds = bit_or s.holds (1 * 2 ^ p % 18446744073709551616); fails = s.fails } ≡ insert s l
  insert_true e = ap (λ w. record { holds = bit_or s.holds w; fails = s.fails }) bit_is
      ∙ ap (λ b. if b then record { holds = bit_or s.holds (2 ^ l.place); fails = s.fails } else record { holds = s.holds; fails = bit_or s.fails (2 ^ l.place) }) (sym e)

  pub insert_false : l.holds ≡ false → record { holds = s.holds; fails = bit_or s.fails (1 * 2 ^ p % 18446744073709551616) } ≡ insert s l
  insert_false e = ap (λ w. record { holds = s.holds; fails = bit_or s.fails w }) bit_is
      ∙ ap (λ b. if b then record { holds = bit_or s.holds (2 ^ l.place); fails = s.fails } else record { holds = s.holds; fails = bit_or s.fails (2 ^ l.place) }) (sym e)

  pub has_true : l.holds ≡ true → (k : Literal) → has (record { holds = bit_or s.holds (1 * 2 ^ p % 18446744073709551616); fails = s.fails }) k ≡ (same l k || has s k)
  has_true e k = ap (λ t. has t k) (insert_true e) ∙ has_insert s l k

  pub has_false : l.holds ≡ false → (k : Literal) → has (record { holds = s.holds; fails = bit_or s.fails (1 * 2 ^ p % 18446744073709551616) }) k ≡ (same l k || has s k)
  has_false e k = ap (λ t. has t k) (insert_false e) ∙ has_insert s l k
