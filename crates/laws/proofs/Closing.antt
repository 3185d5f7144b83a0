-- The closure that is worked out on sets in words is the closure. Assumes nothing.
use Rattle.std.proofs.Common.{◌≡◌, ℕ, zero, suc, ◌+◌, ◌<◌, ◌≤◌, Bool, true, false, not, ◌&&◌, ◌==◌, ◌⊎◌, List, [], ◌∷◌, length, Some, None, sym, refl, ap, ◌∙◌, subst, inl, inr, arith}
use Rattle.std.specs.Prelude.{if◌then◌else◌}
use Rattle.std.proofs.lemmas.Bool.{and_parts, and_from, eqb-true, eq-eqb}
use Rattle.literals.specs.Literal.{same}
use Rattle.literals.specs.Set.{has, insert}
use Rattle.literals.specs.declared.literal.Literal.{Literal}
use Rattle.literals.specs.declared.set.LiteralSet.{LiteralSet}
use Rattle.literals.proofs.Same.{same_is, same_refl}
use Rattle.literals.proofs.Insert.{has_insert}
use Rattle.laws.specs.Code.{grown, run, runs, closed_set}
use Rattle.laws.specs.Rows.{Literals, Row, impossible, effect, state, Within, lies_in, Closed, Closure}
use Rattle.laws.proofs.Closures.{or_left, or_right, or_cases, false_or_true, true_not_false, lies_more, missing, lacks_fewer, missing_fewer, missing_few, lacks_one, lacks_none}

-- the literal is the head of a state law
abbrev pub IsHead : List Row → Literal → Type 0
IsHead [] h = ⊥
IsHead (impossible a body ∷ rows) h = IsHead rows h
IsHead (effect a k body ∷ rows) h = IsHead rows h
IsHead (state None body ∷ rows) h = IsHead rows h
IsHead (state (Some k) body ∷ rows) h = (k ≡ h) ⊎ IsHead rows h

missing_less : (rows : List Row) (X Y : Literals) (h : Literal) → IsHead rows h → Within X Y → X h ≡ false → Y h ≡ true → missing rows Y < missing rows X
missing_less [] X Y h i f x y = absurd i
missing_less (impossible a body ∷ rows) X Y h i f x y = missing_less rows X Y h i f x y
missing_less (effect a k body ∷ rows) X Y h i f x y = missing_less rows X Y h i f x y
missing_less (state None body ∷ rows) X Y h i f x y = omega (arith, missing_less rows X Y h i f x y)
missing_less (state (Some k) body ∷ rows) X Y h (inl e) f x y =
    omega (arith, lacks_one k X (ap X e ∙ x), lacks_none k Y (ap Y e ∙ y), missing_fewer rows X Y f)
missing_less (state (Some k) body ∷ rows) X Y h (inr i) f x y = omega (arith, missing_less rows X Y h i f x y, lacks_fewer (Some k) X Y f)

inserted : (s : LiteralSet) (h : Literal) → Within (has s) (has (insert s h))
inserted s h l e = has_insert s h l ∙ or_right (same h l) (has s l) e

inserted_head : (s : LiteralSet) (h : Literal) → has (insert s h) h ≡ true
inserted_head s h = has_insert s h h ∙ or_left (same h h) (has s h) (same_refl h)

-- whether a state law adds its head
abbrev adds : Literal → List Literal → LiteralSet → Bool
adds h body s = lies_in body (has s) && not (has s h)

grown_added : (h : Literal) (body : List Literal) (s : LiteralSet) → adds h body s ≡ true → grown (state (Some h) body) s ≡ insert s h
grown_added h body s e = ap (λ b. if b then insert s h else s) e

grown_same : (h : Literal) (body : List Literal) (s : LiteralSet) → adds h body s ≡ false → grown (state (Some h) body) s ≡ s
grown_same h body s e = ap (λ b. if b then insert s h else s) e

grown_more : (r : Row) (s : LiteralSet) → Within (has s) (has (grown r s))
grown_more (impossible a body) s l e = e
grown_more (effect a h body) s l e = e
grown_more (state None body) s l e = e
grown_more (state (Some h) body) s l e = elim (false_or_true (adds h body s)) [
  | inl stays ↦ subst (λ t. has t l ≡ true) (sym (grown_same h body s stays)) e
  | inr adding ↦ subst (λ t. has t l ≡ true) (sym (grown_added h body s adding)) (inserted s h l e)
]

run_more : (rows : List Row) (s : LiteralSet) → Within (has s) (has (run rows s))
run_more [] s l e = e
run_more (r ∷ rows) s l e = run_more rows (grown r s) l (grown_more r s l e)

runs_more : (k : ℕ) (rows : List Row) (s : LiteralSet) → Within (has s) (has (runs k rows s))
runs_more zero rows s l e = e
runs_more (suc k) rows s l e = runs_more k rows (run rows s) l (run_more rows s l e)

-- what is added lies in each closed set around
run_least : (rows : List Row) (s : LiteralSet) (Y : Literals) → Within (has s) Y → Closed rows Y → Within (has (run rows s)) Y
run_least [] s Y f c = f
run_least (impossible a body ∷ rows) s Y f c = run_least rows s Y f c
run_least (effect a h body ∷ rows) s Y f c = run_least rows s Y f c
run_least (state None body ∷ rows) s Y f c = run_least rows s Y f c
run_least (state (Some h) body ∷ rows) s Y f c = run_least rows (grown (state (Some h) body) s) Y inside c.1
  where
    inside : Within (has (grown (state (Some h) body) s)) Y
    inside l e = elim (false_or_true (adds h body s)) [
      | inl stays ↦ f l (subst (λ t. has t l ≡ true) (grown_same h body s stays) e)
      | inr adding ↦ elim (or_cases (same h l) (has s l) (sym (has_insert s h l) ∙ subst (λ t. has t l ≡ true) (grown_added h body s adding) e)) [
        | inl here ↦ subst (λ k. Y k ≡ true) (same_is h l here) (c.0 (lies_more body (has s) Y f (and_parts (lies_in body (has s)) (not (has s h)) adding).0))
        | inr old ↦ f l old
      ]
    ]

runs_least : (k : ℕ) (rows : List Row) (s : LiteralSet) (Y : Literals) → Within (has s) Y → Closed rows Y → Within (has (runs k rows s)) Y
runs_least zero rows s Y f c = f
runs_least (suc k) rows s Y f c = runs_least k rows (run rows s) Y (run_least rows s Y f c) c

not_true : (b : Bool) → not b ≡ true → b ≡ false
not_true true e = absurd (true_not_false e refl)
not_true false e = refl

-- where a law does not add its head, it has it wherever its body lies in
has_head : (h : Literal) (body : List Literal) (s : LiteralSet) → adds h body s ≡ false → lies_in body (has s) ≡ true → has s h ≡ true
has_head h body s stays lies = elim (false_or_true (has s h)) [
  | inr e ↦ e
  | inl e ↦ absurd (true_not_false (and_from (lies_in body (has s)) (not (has s h)) lies (ap not e)) stays)
]

-- a pass leaves a closed set as it is, or fewer heads are missing after it
pub settled_or_fewer : (whole rows : List Row) (s : LiteralSet) → ((h : Literal) → IsHead rows h → IsHead whole h) → (Closed rows (has s) × (run rows s ≡ s)) ⊎ (missing whole (has (run rows s)) < missing whole (has s))
settled_or_fewer whole [] s heads = inl (tt, refl)
settled_or_fewer whole (impossible a body ∷ rows) s heads = settled_or_fewer whole rows s heads
settled_or_fewer whole (effect a h body ∷ rows) s heads = settled_or_fewer whole rows s heads
settled_or_fewer whole (state None body ∷ rows) s heads = settled_or_fewer whole rows s heads
settled_or_fewer whole (state (Some h) body ∷ rows) s heads =
    by_adding (false_or_true (adds h body s)) (settled_or_fewer whole rows s (λ k i. heads k (inr i)))
  where
    Aim : LiteralSet → Type 0
    Aim t = ((lies_in body (has s) ≡ true → has s h ≡ true) × Closed rows (has s) × (run rows t ≡ s)) ⊎ (missing whole (has (run rows t)) < missing whole (has s))

    regroup : Aim (grown (state (Some h) body) s) → (Closed (state (Some h) body ∷ rows) (has s) × (run (state (Some h) body ∷ rows) s ≡ s)) ⊎ (missing whole (has (run (state (Some h) body ∷ rows) s)) < missing whole (has s))
    regroup (inl p) = inl ((p.0, p.1), p.2)
    regroup (inr p) = inr p

    added_aim : adds h body s ≡ true → Aim (insert s h)
    added_aim adding =
        inr (omega (
          arith,
          missing_less whole (has s) (has (insert s h)) h (heads h (inl refl)) (inserted s h) (not_true (has s h) (and_parts (lies_in body (has s)) (not (has s h)) adding).1) (inserted_head s h),
          missing_fewer whole (has (insert s h)) (has (run rows (insert s h))) (run_more rows (insert s h)),
        ))

    same_aim : adds h body s ≡ false → (Closed rows (has s) × (run rows s ≡ s)) ⊎ (missing whole (has (run rows s)) < missing whole (has s)) → Aim s
    same_aim stays (inl p) = inl (has_head h body s stays, p.0, p.1)
    same_aim stays (inr p) = inr p

    by_adding : (adds h body s ≡ false) ⊎ (adds h body s ≡ true) → (Closed rows (has s) × (run rows s ≡ s)) ⊎ (missing whole (has (run rows s)) < missing whole (has s)) → (Closed (state (Some h) body ∷ rows) (has s) × (run (state (Some h) body ∷ rows) s ≡ s)) ⊎ (missing whole (has (run (state (Some h) body ∷ rows) s)) < missing whole (has s))
    by_adding (inl stays) rest = regroup (subst Aim (sym (grown_same h body s stays)) (same_aim stays rest))
    by_adding (inr adding) rest = regroup (subst Aim (sym (grown_added h body s adding)) (added_aim adding))

runs_same : (k : ℕ) (rows : List Row) (s : LiteralSet) → run rows s ≡ s → runs k rows s ≡ s
runs_same zero rows s e = refl
runs_same (suc k) rows s e = ap (runs k rows) e ∙ runs_same k rows s e

runs_settle : (k : ℕ) (rows : List Row) (s : LiteralSet) → missing rows (has s) ≤ k → Closed rows (has (runs k rows s)) × (run rows (runs k rows s) ≡ runs k rows s)
runs_settle zero rows s few = elim (settled_or_fewer rows rows s (λ h i. i)) [ inl p ↦ p | inr fewer ↦ absurd (omega (arith, fewer, few)) ]
runs_settle (suc k) rows s few = elim (settled_or_fewer rows rows s (λ h i. i)) [
  | inl p ↦ let same = runs_same (suc k) rows s p.1 in (subst (λ t. Closed rows (has t)) (sym same) p.0, subst (λ t. run rows t ≡ t) (sym same) p.1)
  | inr fewer ↦ runs_settle k rows (run rows s) (omega (arith, fewer, few))
]

-- ---- what the code needs

pub closed_set_closure : (rows : List Row) (s : LiteralSet) → Closure rows (has s) (has (closed_set rows s))
closed_set_closure rows s =
    record {
      contains = runs_more (length rows) rows s;
      closed = (runs_settle (length rows) rows s (missing_few rows (has s))).0;
      least = λ Y f c. runs_least (length rows) rows s Y f c;
    }

runs_add : (k j : ℕ) (rows : List Row) (s : LiteralSet) → runs j rows (runs k rows s) ≡ runs (k + j) rows s
runs_add zero j rows s = let e : j ≡ zero + j = omega arith in ap (λ i. runs i rows s) e
runs_add (suc k) j rows s = runs_add k j rows (run rows s) ∙ ap (λ i. runs i rows s) (let e : suc (k + j) ≡ suc k + j = omega arith in e)

pub runs_next : (k : ℕ) (rows : List Row) (s : LiteralSet) → run rows (runs k rows s) ≡ runs (k + 1) rows s
runs_next k rows s = runs_add k 1 rows s

-- passes that have come to an end have come to the closure
pub ended : (k : ℕ) (rows : List Row) (s : LiteralSet) → run rows (runs k rows s) ≡ runs k rows s → runs k rows s ≡ closed_set rows s
ended k rows s e =
    let n = length rows in
    let swap : k + n ≡ n + k = omega arith in
    let settled = (runs_settle n rows s (missing_few rows (has s))).1 in
    sym (runs_same n rows (runs k rows s) e) ∙ runs_add k n rows s ∙ ap (λ i. runs i rows s) swap ∙ sym (runs_add n k rows s) ∙ runs_same k rows (runs n rows s) settled

-- a pass that changes the set leaves fewer heads missing
pub fewer_missing : (rows : List Row) (s : LiteralSet) → (run rows s ≡ s → ⊥) → missing rows (has (run rows s)) < missing rows (has s)
fewer_missing rows s other = elim (settled_or_fewer rows rows s (λ h i. i)) [ inl p ↦ absurd (other p.1) | inr fewer ↦ fewer ]

-- ---- sets whose words are compared

pub alike : (s t : LiteralSet) → (s.holds == t.holds && s.fails == t.fails) ≡ true → s ≡ t
alike s t e =
    let p = and_parts (s.holds == t.holds) (s.fails == t.fails) e in
    ap (λ w. record { holds = w; fails = s.fails }) (eqb-true s.holds t.holds p.0) ∙ ap (λ w. record { holds = t.holds; fails = w }) (eqb-true s.fails t.fails p.1)

pub unlike : (s t : LiteralSet) → (s.holds == t.holds && s.fails == t.fails) ≡ false → s ≡ t → ⊥
unlike s t e same =
    let here : (t.holds == t.holds && t.fails == t.fails) ≡ true = and_from (t.holds == t.holds) (t.fails == t.fails) (eq-eqb t.holds t.holds refl) (eq-eqb t.fails t.fails refl) in
    true_not_false (subst (λ u. (u.holds == t.holds && u.fails == t.fails) ≡ true) (sym same) here) e
