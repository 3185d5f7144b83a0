-- What the rows add and forbid, row by row, and sets that are the same. Assumes nothing.
use Rattle.std.proofs.Common.{◌≡◌, ℕ, Bool, true, false, ◌&&◌, ◌||◌, ◌==◌, List, [], ◌∷◌, Some, None, sym, refl, ap, ◌∙◌, inl, inr}
use Rattle.std.proofs.Math.Path.{fun_ext}
use Rattle.std.specs.Prelude.{if◌then◌else◌}
use Rattle.literals.specs.Literal.{same}
use Rattle.literals.specs.Set.{has, insert}
use Rattle.literals.specs.declared.literal.Literal.{Literal}
use Rattle.literals.specs.declared.set.LiteralSet.{LiteralSet}
use Rattle.literals.proofs.Insert.{has_insert}
use Rattle.laws.specs.Code.{with_effect, with_effects, forbids_row}
use Rattle.laws.specs.Rows.{Literals, Row, impossible, effect, state, Within, lies_in, Closure, effects, forbids, Unforbidden}
use Rattle.laws.proofs.Closures.{false_or_true, true_not_false}

-- ---- sets that have the same literals are the same

pub same_set : (X Y : Literals) → Within X Y → Within Y X → X ≡ Y
same_set X Y f g = fun_ext (λ l. elim (false_or_true (X l)) [
  | inr e ↦ e ∙ sym (f l e)
  | inl e ↦ elim (false_or_true (Y l)) [ inl k ↦ e ∙ sym k | inr k ↦ absurd (true_not_false (g l k) e) ]
])

pub same_closure : (rows : List Row) (X C D : Literals) → Closure rows X C → Closure rows X D → C ≡ D
same_closure rows X C D c d = same_set C D (c.least D d.contains d.closed) (d.least C c.contains c.closed)

-- ---- effects

or_assoc : (a b c : Bool) → (a || (b || c)) ≡ ((a || b) || c)
or_assoc true b c = refl
or_assoc false b c = refl

or_swap : (a b c : Bool) → (a || (b || c)) ≡ ((b || a) || c)
or_swap true true c = refl
or_swap true false c = refl
or_swap false true c = refl
or_swap false false c = refl

or_false : (a : Bool) → (a || false) ≡ a
or_false true = refl
or_false false = refl

effects_with : (rows : List Row) (a : ℕ) (s X : LiteralSet) (l : Literal) → has (with_effects rows a s X) l ≡ (effects rows a (has s) l || has X l)
effects_with [] a s X l = refl
effects_with (impossible b body ∷ rows) a s X l = effects_with rows a s X l
effects_with (state (Some h) body ∷ rows) a s X l = effects_with rows a s X l
effects_with (state None body ∷ rows) a s X l = effects_with rows a s X l
effects_with (effect b h body ∷ rows) a s X l =
    effects_with rows a s (with_effect (effect b h body) a s X) l ∙ by_firing (b == a) (lies_in body (has s)) refl refl
  where
    by_firing : (x y : Bool) → (b == a) ≡ x → lies_in body (has s) ≡ y
        → (effects rows a (has s) l || has (if x && y then insert X h else X) l) ≡ (((x && (y && same h l)) || effects rows a (has s) l) || has X l)
    by_firing true true e f = ap (λ q. effects rows a (has s) l || q) (has_insert X h l) ∙ or_swap (effects rows a (has s) l) (same h l) (has X l)
    by_firing true false e f = refl
    by_firing false y e f = refl

pub effects_are : (rows : List Row) (a : ℕ) (s X : LiteralSet) → ((l : Literal) → has X l ≡ false) → has (with_effects rows a s X) ≡ effects rows a (has s)
effects_are rows a s X none = fun_ext (λ l. effects_with rows a s X l ∙ ap (λ q. effects rows a (has s) l || q) (none l) ∙ or_false (effects rows a (has s) l))

-- ---- what is forbidden

pub forbids_more : (r : Row) (rows : List Row) (X : LiteralSet) → forbids (r ∷ rows) (has X) ≡ (forbids_row r X || forbids rows (has X))
forbids_more (impossible b body) rows X = refl
forbids_more (effect b h body) rows X = refl
forbids_more (state (Some h) body) rows X = refl
forbids_more (state None body) rows X = refl

pub unforbidden_from : (rows : List Row) (X : Literals) → forbids rows X ≡ false → Unforbidden rows X
unforbidden_from [] X e = tt
unforbidden_from (impossible b body ∷ rows) X e = unforbidden_from rows X e
unforbidden_from (effect b h body ∷ rows) X e = unforbidden_from rows X e
unforbidden_from (state (Some h) body ∷ rows) X e = unforbidden_from rows X e
unforbidden_from (state None body ∷ rows) X e =
    elim (false_or_true (lies_in body X)) [
      | inl f ↦ (f, unforbidden_from rows X (sym (ap (λ b. b || forbids rows X) f) ∙ e))
      | inr f ↦ absurd (true_not_false (ap (λ b. b || forbids rows X) f) e)
    ]

pub unforbidden_not : (rows : List Row) (X : Literals) → forbids rows X ≡ true → Unforbidden rows X → ⊥
unforbidden_not [] X e u = true_not_false e refl
unforbidden_not (impossible b body ∷ rows) X e u = unforbidden_not rows X e u
unforbidden_not (effect b h body ∷ rows) X e u = unforbidden_not rows X e u
unforbidden_not (state (Some h) body ∷ rows) X e u = unforbidden_not rows X e u
unforbidden_not (state None body ∷ rows) X e u = unforbidden_not rows X (sym (ap (λ b. b || forbids rows X) u.0) ∙ e) u.1
