-- When two literals are the same. Assumes nothing.
use Rattle.std.proofs.Common.{◌≡◌, ℕ, ◌<◌, Bool, true, false, not, ◌==◌, sym, refl, ap, ◌∙◌, subst, arith}
use Rattle.std.proofs.lemmas.Bool.{eqb-true, eq-eqb, and_parts, and_from}
use Rattle.std.specs.Coded.{le_prop}
use Rattle.literals.specs.Literal.{agrees, same, opposite}
use Rattle.literals.specs.declared.literal.Literal.{Literal}

agrees_is : (a b : Bool) → agrees a b ≡ true → a ≡ b
agrees_is true true e = refl
agrees_is true false e = absurd (let z : ◌≡◌ {A = ℕ} 0 1 = cc in omega arith)
agrees_is false true e = absurd (let z : ◌≡◌ {A = ℕ} 0 1 = cc in omega arith)
agrees_is false false e = refl

agrees_refl : (b : Bool) → agrees b b ≡ true
agrees_refl true = refl
agrees_refl false = refl

alike : (p q : ℕ) (b c : Bool) (u : p < 64) (v : q < 64) → p ≡ q → b ≡ c → ◌≡◌ {A = Literal} (record { place = p; holds = b; within = u }) (record { place = q; holds = c; within = v })
alike p q b c u v e f =
    subst (λ (j : ℕ). (w : j < 64) → ◌≡◌ {A = Literal} (record { place = p; holds = b; within = u }) (record { place = j; holds = c; within = w })) e
    (λ w. subst (λ d. ◌≡◌ {A = Literal} (record { place = p; holds = b; within = u }) (record { place = p; holds = d; within = w })) f
    (ap (λ (x : p < 64). record { place = p; holds = b; within = x }) (le_prop u w)))
    v

pub same_is : (k l : Literal) → same k l ≡ true → k ≡ l
same_is k l e = let parts = and_parts (k.place == l.place) (agrees k.holds l.holds) e in alike k.place l.place k.holds l.holds k.within l.within (eqb-true k.place l.place parts.0) (agrees_is k.holds l.holds parts.1)

pub same_refl : (l : Literal) → same l l ≡ true
same_refl l = and_from (l.place == l.place) (agrees l.holds l.holds) (eq-eqb l.place l.place refl) (agrees_refl l.holds)

pub opposite_twice : (l : Literal) → opposite (opposite l) ≡ l
opposite_twice l = twice l.holds refl
  where
    twice : (b : Bool) → l.holds ≡ b → opposite (opposite l) ≡ l
    twice true e = alike l.place l.place (not (not l.holds)) l.holds l.within l.within refl (ap (λ b. not (not b)) e ∙ sym e)
    twice false e = alike l.place l.place (not (not l.holds)) l.holds l.within l.within refl (ap (λ b. not (not b)) e ∙ sym e)
