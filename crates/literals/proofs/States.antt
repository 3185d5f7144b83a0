-- Which states have only the first fluents. Assumes nothing.
use Rattle.std.proofs.Common.{◌≡◌, ℕ, ◌^◌, ◌<◌, ◌≤◌, min, ◌-◌, Bool, true, false, ◌↔◌, ◌==◌, IsTrue, refl, sym, ap, ◌∙◌, subst, arith, bit_and, ltb}
use Rattle.std.proofs.lemmas.Bool.{ltb-true, ltb-false, eqb-true, eq-eqb}
use Rattle.std.proofs.lemmas.Nat.Bits.{bit_at_ones, bit_at_ones_above, bit_at_above}
use Rattle.std.specs.Int.{bit_at}
use Rattle.std.specs.Int.Bits.{mask_lt}
use Rattle.literals.specs.State.{Fits, lowest}
use Rattle.literals.specs.declared.state.State.{State}
use Rattle.literals.proofs.Words.{all_shared, all_shared_from, zero_from}

module _ (s : State) (fluents : ℕ) (within : s.bits < 2 ^ 64) where
  fits_is : bit_and s.bits (lowest fluents) ≡ s.bits → Fits s fluents
  fits_is e i u v = zero_from s.bits i (λ f.
      let set : bit_at (lowest fluents) i ≡ 1 = all_shared s.bits (lowest fluents) e i f in
      let clear : bit_at (lowest fluents) i ≡ 0 = bit_at_ones_above (min fluents 64) i (omega arith) in
      omega arith)

  fits_from : Fits s fluents → bit_and s.bits (lowest fluents) ≡ s.bits
  fits_from fits = all_shared_from s.bits (lowest fluents) within (λ i u f. each i u f (ltb i fluents) refl)
    where
      each : (i : ℕ) → i < 64 → bit_at s.bits i ≡ 1 → (b : Bool) → ltb i fluents ≡ b → bit_at (lowest fluents) i ≡ 1
      each i u f true e = let below : i < fluents = ltb-true i fluents e in bit_at_ones (min fluents 64) i (omega arith)
      each i u f false e = let clear : bit_at s.bits i ≡ 0 = fits i u (ltb-false i fluents e) in absurd (omega arith)

  -- where the code reads the lowest bits as m
  pub fits_iff : (m : ℕ) → m ≡ lowest fluents → IsTrue (bit_and s.bits m == s.bits) ↔ Fits s fluents
  fits_iff m is =
      let mask : bit_and s.bits m ≡ bit_and s.bits (lowest fluents) = ap (λ n. bit_and s.bits n) is in
      (λ t. fits_is (sym mask ∙ eqb-true _ _ t), λ p. eq-eqb _ _ (mask ∙ fits_from p))

  -- as an order of numbers
  pub fits_below : fluents ≤ 64 → Fits s fluents ↔ (s.bits < 2 ^ fluents)
  fits_below small = (below, λ b i u v. bit_at_above s.bits fluents i b v)
    where
      width : min fluents 64 ≡ fluents
      width = omega arith

      below : Fits s fluents → s.bits < 2 ^ fluents
      below fits = subst (λ n. n < 2 ^ fluents) (ap (λ k. bit_and s.bits (2 ^ k - 1)) (sym width) ∙ fits_from fits) (mask_lt s.bits fluents)
