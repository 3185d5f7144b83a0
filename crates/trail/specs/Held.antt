-- What a trail holds, how much it can hold, and what an operation may do to its lent places.
use Rattle.std.specs.Prelude.{◌≡◌, ℕ, List, length, take, drop}
use Rattle.trail.specs.declared.Trail.{Trail}

-- the elements, from the first to the last
abbrev pub held : {T : Type 0} → Trail T → List T
held t = take t.len t.places.now

-- how many elements it can hold in all
abbrev pub room : {T : Type 0} → Trail T → ℕ
room t = length t.places.now

-- u stands over the same lent places as t, and those from place n on, counted from 0, hold what they held
pub record KeptFrom {T : Type 0} (n : ℕ) (t u : Trail T) : Type 0 where
  pub lender : u.places.ghost_name ≡ t.places.ghost_name
  pub room_same : room u ≡ room t
  pub later : drop n u.places.now ≡ drop n t.places.now
