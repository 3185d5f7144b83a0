-- The numbers that describe a state to a reader, and the rules that they keep.
use Rattle.std.specs.Prelude.{◌≡◌, ℕ, ◌<◌, ◌≤◌, false}
use Rattle.model.specs.Meaning.{Meaning}

pub record Shown (S : Type 0) : Type 0 where
  -- how many numbers describe a state
  pub places : ℕ
  -- the number at a place, counted from 1
  pub number : S → ℕ → ℕ

-- The rules of a shown model.
pub record Legible {S F : Type 0} (m : Meaning S F) (v : Shown S) : Type 0 where
  pub few : v.places ≤ 999
  pub small : (s : S) (p : ℕ) → v.number s p ≤ 9999
  pub none_at_zero : (s : S) → v.number s 0 ≡ 0
  pub none_past : (s : S) (p : ℕ) → v.places < p → v.number s p ≡ 0
  pub none_of_no_state : (s : S) (p : ℕ) → m.is_state s ≡ false → v.number s p ≡ 0

-- no number describes a state
abbrev pub nothing_shown : {S : Type 0} → Shown S
nothing_shown = record { places = 0; number = λ s p. 0 }
