-- What the last floor and its ceiling say of B. Assumes nothing.
use Rattle.std.proofs.Common.{◌≡◌, ℕ, suc, ◌+◌, true, List, sym, ap, ◌∙◌, subst, arith}
use Rattle.laws.specs.Rows.{Literals, Row, Within, Unforbidden, effects}
use Rattle.laws.specs.Step.{Total, Heads, Allows, Consistent, against, floor, ceiling, LastFloor}
use Rattle.laws.proofs.Between.{floor_consistent, floor_unforbidden, ceiling_allowed, ceiling_only}
use Rattle.laws.proofs.Effects.{same_set}

module _ (n : ℕ) (rows : List Row) (a : ℕ) (s : Literals) (total : Total n s) (F : Literals) (last : LastFloor rows (effects rows a s) s F) where
  -- where B allows a state, the last floor is consistent and has no forbidden body
  pub nothing_allowed : (Consistent F → Unforbidden rows F → ⊥) → (t : Literals) → Allows n rows a s t → ⊥
  nothing_allowed none t allowed =
      none (subst Consistent (sym last.is) (floor_consistent n rows a s total t allowed last.turn))
      (subst (Unforbidden rows) (sym last.is) (floor_unforbidden n rows a s total t allowed last.turn))

  module _ (heads : Heads n rows) (open_not : Consistent (against rows (effects rows a s) s F)) (unforbidden : Unforbidden rows F) where
    abbrev C : Literals
    C = ceiling rows (effects rows a s) s last.turn

    same : C ≡ against rows (effects rows a s) s F
    same = ap (against rows (effects rows a s) s) (sym last.is)

    settled : Within (floor rows (effects rows a s) s (suc last.turn)) (floor rows (effects rows a s) s last.turn)
    settled l e =
        let up : suc last.turn ≡ last.turn + 1 = omega arith in
        subst (λ X. X l ≡ true) (ap (floor rows (effects rows a s) s) up ∙ last.repeats ∙ last.is) e

    pub allowed_here : Allows n rows a s (against rows (effects rows a s) s F)
    allowed_here =
        subst (Allows n rows a s) same
        (ceiling_allowed n rows a s total heads last.turn settled (subst Consistent (sym same) open_not) (subst (Unforbidden rows) last.is unforbidden))

    pub allowed_only : (t : Literals) → Allows n rows a s t → t ≡ against rows (effects rows a s) s F
    allowed_only t allowed =
        let around = ceiling_only n rows a s total heads last.turn settled (subst Consistent (sym same) open_not) (subst (Unforbidden rows) last.is unforbidden) t allowed in
        same_set t C around.0 around.1 ∙ same
