-- What the steps of a search keep of the lent places. Assumes nothing.
use Rattle.std.proofs.Common.{◌≡◌, ℕ, ◌≤◌, sym, refl, ◌∙◌, subst, arith}
use Rattle.trail.proofs.Effects as trail
use Rattle.planner.specs.Path.{HasRoom, KeptPast}
use Rattle.planner.specs.declared.path.Path.{Path}

module _ {S : Type 0} where
  pub kept_refl : (n k : ℕ) (p : Path S) → KeptPast n k p p
  kept_refl n k p = record { states_trail = refl; actions_trail = refl; states = trail.kept_refl n _; actions = trail.kept_refl k _ }

  pub kept_same : (n k : ℕ) {p q : Path S} → q ≡ p → KeptPast n k p q
  kept_same n k {p} e = subst (λ r. KeptPast n k p r) (sym e) (kept_refl n k p)

  pub kept_trans : {n k : ℕ} {p q r : Path S} → KeptPast n k p q → KeptPast n k q r → KeptPast n k p r
  kept_trans a b =
      record {
        states_trail = b.states_trail ∙ a.states_trail;
        actions_trail = b.actions_trail ∙ a.actions_trail;
        states = trail.kept_trans a.states b.states;
        actions = trail.kept_trans a.actions b.actions;
      }

  -- what keeps more places keeps fewer
  pub kept_fewer : {i j n k : ℕ} {p q : Path S} → i ≤ n → j ≤ k → KeptPast i j p q → KeptPast n k p q
  kept_fewer {i} {j} {n} {k} h l a =
      record {
        states_trail = a.states_trail;
        actions_trail = a.actions_trail;
        states = trail.kept_fewer i n h a.states;
        actions = trail.kept_fewer j k l a.actions;
      }

  pub room_kept : {i j n : ℕ} {p q : Path S} → KeptPast i j p q → HasRoom n p → HasRoom n q
  room_kept a room = record { states = omega (arith, a.states.room_same, room.states); actions = omega (arith, a.actions.room_same, room.actions) }
