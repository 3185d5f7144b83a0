-- Where no row is broken all state laws are kept. Assumes nothing.
use Rattle.std.proofs.Common.{◌≡◌, ℕ, ◌+◌, Bool, true, false, not, ◌&&◌, ◌⊎◌, List, [], ◌∷◌, Some, None, Option, sym, refl, ap, ◌∙◌, inl, inr, arith}
use Rattle.std.specs.Prelude.{if◌then◌else◌}
use Rattle.std.proofs.lemmas.Bool.{and_parts, and_from}
use Rattle.literals.specs.declared.literal.Literal.{Literal}
use Rattle.laws.specs.Rows.{Literals, Row, impossible, effect, state, lies_in, Closed, Unforbidden, breaks, first_from}
use Rattle.laws.proofs.Closures.{false_or_true, true_not_false}

pub some_not_none : {n : ℕ} → Some n ≡ None → ⊥
some_not_none e = let z : ◌≡◌ {A = ℕ} 0 1 = cc in omega arith

-- a row of which p is false is passed over
passed : (n : ℕ) (b : Bool) (rest : Option ℕ) → (if b then Some n else rest) ≡ None → (b ≡ false) × (rest ≡ None)
passed n true rest e = absurd (some_not_none e)
passed n false rest e = (refl, e)

pub unbroken : (n : ℕ) (rows : List Row) (s : Literals) → first_from n (breaks s) rows ≡ None → Closed rows s × Unforbidden rows s
unbroken n [] s e = (tt, tt)
unbroken n (impossible b body ∷ rows) s e = unbroken (n + 1) rows s e
unbroken n (effect b h body ∷ rows) s e = unbroken (n + 1) rows s e
unbroken n (state None body ∷ rows) s e =
    let p = passed n (lies_in body s) (first_from (n + 1) (breaks s) rows) e in
    let rest = unbroken (n + 1) rows s p.1 in
    (rest.0, (p.0, rest.1))
unbroken n (state (Some h) body ∷ rows) s e =
    let p = passed n (lies_in body s && not (s h)) (first_from (n + 1) (breaks s) rows) e in
    let rest = unbroken (n + 1) rows s p.1 in
    let head : lies_in body s ≡ true → s h ≡ true = λ lies. elim (false_or_true (s h)) [
      | inr x ↦ x
      | inl x ↦ absurd (true_not_false (and_from (lies_in body s) (not (s h)) lies (ap not x)) p.0)
    ] in
    ((head, rest.0), rest.1)

unbroken_head : (h : Literal) (body : List Literal) (s : Literals) → (lies_in body s ≡ true → s h ≡ true) → (lies_in body s && not (s h)) ≡ false
unbroken_head h body s f = elim (false_or_true (lies_in body s && not (s h))) [
  | inl x ↦ x
  | inr x ↦ let p = and_parts (lies_in body s) (not (s h)) x in absurd (true_not_false p.1 (ap not (f p.0)))
]

pub kept_unbroken : (n : ℕ) (rows : List Row) (s : Literals) → Closed rows s → Unforbidden rows s → first_from n (breaks s) rows ≡ None
kept_unbroken n [] s c u = refl
kept_unbroken n (impossible b body ∷ rows) s c u = kept_unbroken (n + 1) rows s c u
kept_unbroken n (effect b h body ∷ rows) s c u = kept_unbroken (n + 1) rows s c u
kept_unbroken n (state None body ∷ rows) s c u = ap (λ b. if b then Some n else first_from (n + 1) (breaks s) rows) u.0 ∙ kept_unbroken (n + 1) rows s c u.1
kept_unbroken n (state (Some h) body ∷ rows) s c u =
    ap (λ b. if b then Some n else first_from (n + 1) (breaks s) rows) (unbroken_head h body s c.0) ∙ kept_unbroken (n + 1) rows s c.1 u
