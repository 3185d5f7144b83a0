-- The closure that is worked out is the least closed set. Assumes nothing.
use Rattle.std.proofs.Common.{◌≡◌, ℕ, zero, suc, ◌+◌, ◌<◌, ◌≤◌, Bool, true, false, ◌&&◌, ◌||◌, ◌⊎◌, List, [], ◌∷◌, length, Some, None, Option, refl, ap, subst, inl, inr, arith}
use Rattle.std.proofs.lemmas.Bool.{and_parts, and_from}
use Rattle.literals.specs.Literal.{same}
use Rattle.literals.specs.declared.literal.Literal.{Literal}
use Rattle.literals.proofs.Same.{same_is, same_refl}
use Rattle.laws.specs.Rows.{Literals, Row, impossible, effect, state, Within, lies_in, Closed, Closure, added, pass, passes, closure}

-- ---- truth values

pub or_left : (a b : Bool) → a ≡ true → (a || b) ≡ true
or_left true b e = refl
or_left false b e = absurd (let z : ◌≡◌ {A = ℕ} 0 1 = cc in omega arith)

pub or_right : (a b : Bool) → b ≡ true → (a || b) ≡ true
or_right true b e = refl
or_right false b e = e

pub or_cases : (a b : Bool) → (a || b) ≡ true → (a ≡ true) ⊎ (b ≡ true)
or_cases true b e = inl refl
or_cases false b e = inr e

pub false_or_true : (b : Bool) → (b ≡ false) ⊎ (b ≡ true)
false_or_true true = inr refl
false_or_true false = inl refl

pub true_not_false : {b : Bool} → b ≡ true → b ≡ false → ⊥
true_not_false p q = let z : ◌≡◌ {A = ℕ} 0 1 = cc in omega arith

-- ---- sets

pub within_trans : (X Y Z : Literals) → Within X Y → Within Y Z → Within X Z
within_trans X Y Z f g l e = g l (f l e)

pub lies_more : (body : List Literal) (X Y : Literals) → Within X Y → lies_in body X ≡ true → lies_in body Y ≡ true
lies_more [] X Y f e = refl
lies_more (l ∷ ls) X Y f e = let p = and_parts (X l) (lies_in ls X) e in and_from (Y l) (lies_in ls Y) (f l p.0) (lies_more ls X Y f p.1)

-- what a pass adds is in each closed set around
added_least : (rows : List Row) (X Y : Literals) → Within X Y → Closed rows Y → Within (added rows X) Y
added_least [] X Y f c l e = absurd (true_not_false e refl)
added_least (impossible a body ∷ rows) X Y f c l e = added_least rows X Y f c l e
added_least (effect a h body ∷ rows) X Y f c l e = added_least rows X Y f c l e
added_least (state (Some h) body ∷ rows) X Y f c l e =
    elim (or_cases (lies_in body X && same h l) (added rows X l) e) [
      | inl here ↦ let p = and_parts (lies_in body X) (same h l) here in
          subst (λ k. Y k ≡ true) (same_is h l p.1) (c.0 (lies_more body X Y f p.0))
      | inr later ↦ added_least rows X Y f c.1 l later
    ]
added_least (state None body ∷ rows) X Y f c l e = added_least rows X Y f c l e

pass_least : (rows : List Row) (X Y : Literals) → Within X Y → Closed rows Y → Within (pass rows X) Y
pass_least rows X Y f c l e = elim (or_cases (X l) (added rows X l) e) [ inl old ↦ f l old | inr new ↦ added_least rows X Y f c l new ]

passes_least : (k : ℕ) (rows : List Row) (X Y : Literals) → Within X Y → Closed rows Y → Within (passes k rows X) Y
passes_least zero rows X Y f c = f
passes_least (suc k) rows X Y f c = passes_least k rows (pass rows X) Y (pass_least rows X Y f c) c

passes_contains : (k : ℕ) (rows : List Row) (X : Literals) → Within X (passes k rows X)
passes_contains zero rows X l e = e
passes_contains (suc k) rows X l e = passes_contains k rows (pass rows X) l (or_left (X l) (added rows X l) e)

-- ---- each pass that is not the last adds the head of a row

-- 1 for a row whose head is not in the set
abbrev pub lacks : Option Literal → Literals → ℕ
lacks None X = 0
lacks (Some h) X = elim (X h) [ true ↦ 0 | false ↦ 1 ]

abbrev pub missing : List Row → Literals → ℕ
missing [] X = 0
missing (impossible a body ∷ rows) X = missing rows X
missing (effect a h body ∷ rows) X = missing rows X
missing (state h body ∷ rows) X = lacks h X + missing rows X

pub lacks_fewer : (h : Option Literal) (X Y : Literals) → Within X Y → lacks h Y ≤ lacks h X
lacks_fewer None X Y f = omega arith
lacks_fewer (Some h) X Y f = by_values (X h) (Y h) refl refl
  where
    by_values : (x y : Bool) → X h ≡ x → Y h ≡ y → (elim y [ true ↦ 0 | false ↦ 1 ]) ≤ (elim x [ true ↦ 0 | false ↦ 1 ])
    by_values true true e g = omega arith
    by_values true false e g = absurd (true_not_false (f h e) g)
    by_values false true e g = omega arith
    by_values false false e g = omega arith

pub missing_fewer : (rows : List Row) (X Y : Literals) → Within X Y → missing rows Y ≤ missing rows X
missing_fewer [] X Y f = omega arith
missing_fewer (impossible a body ∷ rows) X Y f = missing_fewer rows X Y f
missing_fewer (effect a h body ∷ rows) X Y f = missing_fewer rows X Y f
missing_fewer (state h body ∷ rows) X Y f = omega (arith, lacks_fewer h X Y f, missing_fewer rows X Y f)

pub missing_few : (rows : List Row) (X : Literals) → missing rows X ≤ length rows
missing_few [] X = omega arith
missing_few (impossible a body ∷ rows) X = omega (arith, missing_few rows X)
missing_few (effect a h body ∷ rows) X = omega (arith, missing_few rows X)
missing_few (state None body ∷ rows) X = omega (arith, missing_few rows X)
missing_few (state (Some h) body ∷ rows) X = by_value (X h) (missing_few rows X)
  where
    by_value : (x : Bool) → missing rows X ≤ length rows → (elim x [ true ↦ 0 | false ↦ 1 ]) + missing rows X ≤ length (state (Some h) body ∷ rows)
    by_value true few = omega (arith, few)
    by_value false few = omega (arith, few)

pub lacks_one : (h : Literal) (X : Literals) → X h ≡ false → lacks (Some h) X ≡ 1
lacks_one h X e = ap (λ x. elim x [ true ↦ 0 | false ↦ 1 ]) e

pub lacks_none : (h : Literal) (X : Literals) → X h ≡ true → lacks (Some h) X ≡ 0
lacks_none h X e = ap (λ x. elim x [ true ↦ 0 | false ↦ 1 ]) e

-- a set that has all that one pass adds is closed already, or lacks fewer heads
closed_or_fewer : (rows : List Row) (X Y : Literals) → Within X Y → Within (added rows X) Y → Closed rows X ⊎ (missing rows Y < missing rows X)
closed_or_fewer [] X Y f g = inl tt
closed_or_fewer (impossible a body ∷ rows) X Y f g = closed_or_fewer rows X Y f g
closed_or_fewer (effect a h body ∷ rows) X Y f g = closed_or_fewer rows X Y f g
closed_or_fewer (state None body ∷ rows) X Y f g = elim (closed_or_fewer rows X Y f g) [ inl closed ↦ inl closed | inr fewer ↦ inr (omega (arith, fewer)) ]
closed_or_fewer (state (Some h) body ∷ rows) X Y f g =
    by_body (false_or_true (lies_in body X)) (closed_or_fewer rows X Y f (λ l e. g l (or_right (lies_in body X && same h l) (added rows X l) e)))
  where
    Aim : Type 0
    Aim = Closed (state (Some h) body ∷ rows) X ⊎ (missing (state (Some h) body ∷ rows) Y < missing (state (Some h) body ∷ rows) X)

    go_on : (lies_in body X ≡ true → X h ≡ true) → Closed rows X ⊎ (missing rows Y < missing rows X) → Aim
    go_on here (inl closed) = inl (here, closed)
    go_on here (inr fewer) = inr (omega (arith, fewer, lacks_fewer (Some h) X Y f))

    new_head : lies_in body X ≡ true → Y h ≡ true
    new_head e = g h (or_left (lies_in body X && same h h) (added rows X h) (and_from (lies_in body X) (same h h) e (same_refl h)))

    by_head : lies_in body X ≡ true → (X h ≡ false) ⊎ (X h ≡ true) → Closed rows X ⊎ (missing rows Y < missing rows X) → Aim
    by_head e (inr x) rest = go_on (λ _. x) rest
    by_head e (inl x) rest = inr (omega (arith, lacks_one h X x, lacks_none h Y (new_head e), missing_fewer rows X Y f))

    by_body : (lies_in body X ≡ false) ⊎ (lies_in body X ≡ true) → Closed rows X ⊎ (missing rows Y < missing rows X) → Aim
    by_body (inl e) rest = go_on (λ t. absurd (true_not_false t e)) rest
    by_body (inr e) rest = by_head e (false_or_true (X h)) rest

-- sets with the same literals are closed alike
closed_same : (rows : List Row) (X Z : Literals) → Within X Z → Within Z X → Closed rows X → Closed rows Z
closed_same [] X Z f g c = tt
closed_same (impossible a body ∷ rows) X Z f g c = closed_same rows X Z f g c
closed_same (effect a h body ∷ rows) X Z f g c = closed_same rows X Z f g c
closed_same (state None body ∷ rows) X Z f g c = closed_same rows X Z f g c
closed_same (state (Some h) body ∷ rows) X Z f g c = (λ e. f h (c.0 (lies_more body Z X g e)), closed_same rows X Z f g c.1)

in_pass : (rows : List Row) (X : Literals) → Within X (pass rows X)
in_pass rows X l e = or_left (X l) (added rows X l) e

added_in_pass : (rows : List Row) (X : Literals) → Within (added rows X) (pass rows X)
added_in_pass rows X l e = or_right (X l) (added rows X l) e

passes_close : (k : ℕ) (rows : List Row) (X : Literals) → missing rows X ≤ k → Closed rows (passes k rows X)
passes_close zero rows X few = elim (closed_or_fewer rows X (pass rows X) (in_pass rows X) (added_in_pass rows X)) [ inl closed ↦ closed | inr fewer ↦ absurd (omega (arith, fewer, few)) ]
passes_close (suc k) rows X few =
    elim (closed_or_fewer rows X (pass rows X) (in_pass rows X) (added_in_pass rows X)) [
      | inl closed ↦ closed_same rows X (passes (suc k) rows X) (passes_contains (suc k) rows X) (passes_least (suc k) rows X X (λ l e. e) closed) closed
      | inr fewer ↦ passes_close k rows (pass rows X) (omega (arith, fewer, few))
    ]

pub closure_is : (rows : List Row) (X : Literals) → Closure rows X (closure rows X)
closure_is rows X =
    record {
      contains = passes_contains (length rows) rows X;
      closed = passes_close (length rows) rows X (missing_few rows X);
      least = λ Y f c. passes_least (length rows) rows X Y f c;
    }

-- ---- what follows of closures alone

pub closure_unique : (rows : List Row) (X C D : Literals) → Closure rows X C → Closure rows X D → Within C D
closure_unique rows X C D c d = c.least D d.contains d.closed

-- a larger set has a larger closure
pub closure_more : (rows : List Row) (X Y C D : Literals) → Within X Y → Closure rows X C → Closure rows Y D → Within C D
closure_more rows X Y C D f c d = c.least D (within_trans X Y D f d.contains) d.closed

-- what is in a closure need not be added
pub closure_in : (rows : List Row) (X Y C D : Literals) → Within X D → Closure rows X C → Closure rows Y D → Within C D
closure_in rows X Y C D f c d = c.least D f d.closed
