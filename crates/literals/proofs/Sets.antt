-- Tests on two sets, by the words. Assumes nothing.
use Rattle.std.proofs.Common.{◌≡◌, ℕ, ◌^◌, ◌<◌, Bool, true, false, ◌↔◌, ◌==◌, IsTrue, bit_and}
use Rattle.std.proofs.lemmas.Bool.{eqb-true, eq-eqb}
use Rattle.literals.specs.Literal.{opposite}
use Rattle.literals.specs.Set.{has, Consistent, Includes}
use Rattle.literals.specs.declared.set.LiteralSet.{LiteralSet}
use Rattle.literals.proofs.Words.{none_shared, none_shared_from, all_shared, all_shared_from}

module _ (s : LiteralSet) (within : s.holds < 2 ^ 64) where
  consistent_is : bit_and s.holds s.fails ≡ 0 → Consistent s
  consistent_is e l = at_parts l.place l.within l.holds
    where
      at_parts : (p : ℕ) (u : p < 64) (b : Bool) → has s (record { place = p; holds = b; within = u }) ≡ true → has s (opposite (record { place = p; holds = b; within = u })) ≡ true → ⊥
      at_parts p u true f g = none_shared s.holds s.fails e p (eqb-true _ _ f) (eqb-true _ _ g)
      at_parts p u false f g = none_shared s.holds s.fails e p (eqb-true _ _ g) (eqb-true _ _ f)

  consistent_from : Consistent s → bit_and s.holds s.fails ≡ 0
  consistent_from c = none_shared_from s.holds s.fails within (λ i u f g. c (record { place = i; holds = true; within = u }) (eq-eqb _ _ f) (eq-eqb _ _ g))

  pub consistent_iff : IsTrue (bit_and s.holds s.fails == 0) ↔ Consistent s
  consistent_iff = (λ t. consistent_is (eqb-true _ _ t), λ p. eq-eqb _ _ (consistent_from p))

module _ (s t : LiteralSet) (holds_within : t.holds < 2 ^ 64) (fails_within : t.fails < 2 ^ 64) where
  includes_is : (bit_and t.holds s.holds ≡ t.holds) × (bit_and t.fails s.fails ≡ t.fails) → Includes s t
  includes_is e l = at_parts l.place l.within l.holds
    where
      at_parts : (p : ℕ) (u : p < 64) (b : Bool) → has t (record { place = p; holds = b; within = u }) ≡ true → has s (record { place = p; holds = b; within = u }) ≡ true
      at_parts p u true f = eq-eqb _ _ (all_shared t.holds s.holds e.0 p (eqb-true _ _ f))
      at_parts p u false f = eq-eqb _ _ (all_shared t.fails s.fails e.1 p (eqb-true _ _ f))

  includes_from : Includes s t → (bit_and t.holds s.holds ≡ t.holds) × (bit_and t.fails s.fails ≡ t.fails)
  includes_from c = (
    all_shared_from t.holds s.holds holds_within (λ i u f. eqb-true _ _ (c (record { place = i; holds = true; within = u }) (eq-eqb _ _ f))),
    all_shared_from t.fails s.fails fails_within (λ i u f. eqb-true _ _ (c (record { place = i; holds = false; within = u }) (eq-eqb _ _ f))),
  )

  -- where the first words pass the test, the second decide; where they do not, neither side holds
  pub includes_by_fails : bit_and t.holds s.holds ≡ t.holds → IsTrue (bit_and t.fails s.fails == t.fails) ↔ Includes s t
  includes_by_fails e = (λ f. includes_is (e, eqb-true _ _ f), λ p. eq-eqb _ _ (includes_from p).1)

  pub includes_by_holds : (bit_and t.holds s.holds ≡ t.holds → ⊥) → IsTrue (bit_and t.holds s.holds == t.holds) ↔ Includes s t
  includes_by_holds n = (λ f. absurd (n (eqb-true _ _ f)), λ p. eq-eqb _ _ (includes_from p).0)
