-- How often a literal was given for the start. Assumes nothing.
use Rattle.std.proofs.Common.{◌≡◌, ℕ, zero, suc, ◌+◌, Bool, true, false, not, Some, None, Option, ◌&&◌, ◌||◌, List, ◌∷◌, sym, refl, ap, ◌∙◌, arith}
use Rattle.std.specs.Prelude.{if◌then◌else◌}
use Rattle.std.proofs.lemmas.Bool.{true≢false, false≢true}
use Rattle.literals.specs.Literal.{same, opposite}
use Rattle.literals.specs.Set.{has}
use Rattle.literals.specs.declared.literal.Literal.{Literal}
use Rattle.literals.proofs.Same.{same_is}
use Rattle.law_table.specs.Entry.{WithStart}
use Rattle.law_table.specs.Start.{count, at_least_once, more_than_once, Given, starts_once, Unstarted, times, UnstartedOf}
use Rattle.law_table.specs.declared.draft.Draft.{Draft}

once : (b : Bool) (c : ℕ) → (b || at_least_once c) ≡ at_least_once (if b then suc c else c)
once true c = refl
once false c = refl

twice : (b : Bool) (c : ℕ) → ((b && at_least_once c) || more_than_once c) ≡ more_than_once (if b then suc c else c)
twice true zero = refl
twice true (suc zero) = refl
twice true (suc (suc c)) = refl
twice false c = refl

-- of the same literal it is the same whether it was given
given_same : (d : Draft) (l k : Literal) (b : Bool) → same l k ≡ b → (b && has d.given l) ≡ (b && has d.given k)
given_same d l k true e = ap (has d.given) (same_is l k e)
given_same d l k false e = refl

pub given_more : (old : Draft) (l : Literal) (new : Draft) (ls : List Literal) → WithStart old l new → Given old ls → Given new (l ∷ ls)
given_more old l new ls w g k =
    let once_told = w.given k ∙ ap (λ x. same l k || x) (g k).0 ∙ once (same l k) (count k ls) in
    let told : ((same l k && has old.given l) || has old.again k) ≡ more_than_once (count k (l ∷ ls)) =
    ap (λ x. x || has old.again k) (given_same old l k (same l k) refl) ∙ ap (λ x. (same l k && x) || has old.again k) (g k).0
    ∙ ap (λ x. (same l k && at_least_once (count k ls)) || x) (g k).1 ∙ twice (same l k) (count k ls) in
    (once_told, w.again k ∙ told)

-- the counts of the two literals of a fluent, as a draft tells of them: it has one start literal
abbrev exact : ℕ → ℕ → Bool
exact a b = ((at_least_once a && not (at_least_once b)) || (not (at_least_once a) && at_least_once b)) && (not (more_than_once a) && not (more_than_once b))

exact_one : (a b : ℕ) → exact a b ≡ true → a + b ≡ 1
exact_one zero zero e = absurd (false≢true e)
exact_one zero (suc zero) e = refl
exact_one zero (suc (suc b)) e = absurd (false≢true e)
exact_one (suc zero) zero e = refl
exact_one (suc zero) (suc b) e = absurd (false≢true e)
exact_one (suc (suc a)) zero e = absurd (false≢true e)
exact_one (suc (suc a)) (suc b) e = absurd (false≢true e)

exact_other : (a b : ℕ) → exact a b ≡ false → a + b ≡ 1 → ⊥
exact_other zero zero e one = omega (arith, one)
exact_other zero (suc zero) e one = true≢false e
exact_other zero (suc (suc b)) e one = omega (arith, one)
exact_other (suc zero) zero e one = true≢false e
exact_other (suc zero) (suc b) e one = omega (arith, one)
exact_other (suc (suc a)) b e one = omega (arith, one)

module _ (d : Draft) (ls : List Literal) (g : Given d ls) where
  starts_exact : (l : Literal) → starts_once d l ≡ exact (count l ls) (count (opposite l) ls)
  starts_exact l =
      let other = opposite l in
      ap (λ x. ((x && not (has d.given other)) || (not x && has d.given other)) && (not (has d.again l) && not (has d.again other))) (g l).0
      ∙ ap (λ x. ((at_least_once (count l ls) && not x) || (not (at_least_once (count l ls)) && x)) && (not (has d.again l) && not (has d.again other))) (g other).0
      ∙ ap (λ x. ((at_least_once (count l ls) && not (at_least_once (count other ls))) || (not (at_least_once (count l ls)) && at_least_once (count other ls))) && (not x && not (has d.again other))) (g l).1
      ∙ ap (λ x. ((at_least_once (count l ls) && not (at_least_once (count other ls))) || (not (at_least_once (count l ls)) && at_least_once (count other ls))) && (not (more_than_once (count l ls)) && not x)) (g other).1

  once_one : (l : Literal) → starts_once d l ≡ true → times l ls ≡ 1
  once_one l e = exact_one (count l ls) (count (opposite l) ls) (sym (starts_exact l) ∙ e)

  not_one : (l : Literal) → starts_once d l ≡ false → times l ls ≡ 1 → ⊥
  not_one l e = exact_other (count l ls) (count (opposite l) ls) (sym (starts_exact l) ∙ e)

  pub unstarted_of : (r : Option ℕ) → Unstarted d r → UnstartedOf d ls r
  unstarted_of None u = λ k holds below. once_one k (u k holds below)
  unstarted_of (Some f) u =
      let first = u.0 in
      ((first.0, first.1, first.2, first.3, not_one first.0 first.4), λ k holds below. once_one k (u.1 k holds below))
