-- One turn of narrowing. Assumes nothing.
use Rattle.std.proofs.Common.{◌≡◌, ℕ, suc, ◌+◌, ◌-◌, ◌<◌, ◌≤◌, true, List, sym, ap, ◌∙◌, subst, arith}
use Rattle.laws.specs.Rows.{Literals, Row, Within}
use Rattle.laws.specs.Step.{against, floor, LastFloor}
use Rattle.laws.proofs.Between.{floors_grow}
use Rattle.laws.proofs.Counting.{count, count_less, count_few}
use Rattle.laws.proofs.Effects.{same_set}

fewer : (a b : ℕ) → a < b → b ≤ 64 + 64 → 128 - b < 128 - a
fewer a b h k = omega (arith, h, k)

module _ (rows : List Row) (E s F C N : Literals) (turn : ℕ) (is : F ≡ floor rows E s turn) (made : C ≡ against rows E s F) (next : N ≡ against rows E s C) where
  pub next_is : N ≡ floor rows E s (suc turn)
  next_is = next ∙ ap (against rows E s) (made ∙ ap (against rows E s) is)

  grows : Within F N
  grows l e = subst (λ X. X l ≡ true) (sym next_is) (floors_grow rows E s turn l (subst (λ X. X l ≡ true) is e))

  -- where the next floor has nothing more, it repeats
  pub last : Within N F → LastFloor rows E s F
  last f = record { turn = turn; is = is; repeats = let e : turn + 1 ≡ suc turn = omega arith in ap (floor rows E s) e ∙ sym next_is ∙ same_set N F f grows }

  pub more : (Within N F → ⊥) → 128 - count 64 N < 128 - count 64 F
  more other = fewer (count 64 F) (count 64 N) (count_less F N grows other) (count_few 64 N)
