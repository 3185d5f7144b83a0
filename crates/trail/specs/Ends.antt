-- What adding, taking and emptying do to a trail and to every lent place.
use Rattle.std.specs.Prelude.{◌≡◌, ℕ, ◌+◌, ◌<◌, ◌≤◌, [], ◌∷◌, ◌++◌, length, Some, None, Ok, Err, Option, Result, slice_set}
use Rattle.trail.specs.Held.{held, room}
use Rattle.trail.specs.declared.Trail.{Trail}
use Rattle.trail.specs.declared.fault.TrailFault.{TrailFault}
use Rattle.trail.specs.declared.fault.TrailFault.TheVariants.{Full}

-- x was added to t, which then is u. Only the place behind the last element was written.
pub record Added {T : Type 0} (t : Trail T) (x : T) (u : Trail T) : Type 0 where
  pub fits : length (held t) < room t
  pub holds : held u ≡ held t ++ (x ∷ [])
  pub places : u.places.now ≡ slice_set t.places.now (length (held t)) x
  pub lender : u.places.ghost_name ≡ t.places.ghost_name

-- Adding x to t answers r and leaves u.
abbrev pub Pushed : {T : Type 0} → Trail T → T → Result ℕ TrailFault → Trail T → Type 0
Pushed t x (Ok n) u = (n ≡ length (held t) + 1) × Added t x u
Pushed t x (Err Full) u = (room t ≤ length (held t)) × (u ≡ t)

-- x was taken from the end of t, which then is u. No place was written.
pub record Taken {T : Type 0} (t : Trail T) (x : T) (u : Trail T) : Type 0 where
  pub holds : held t ≡ held u ++ (x ∷ [])
  pub places : u.places ≡ t.places

-- Taking from t answers r and leaves u.
abbrev pub Popped : {T : Type 0} → Trail T → Option T → Trail T → Type 0
Popped t None u = (held t ≡ []) × (u ≡ t)
Popped t (Some x) u = Taken t x u

-- Emptying t leaves u; no place is written.
pub record Cleared {T : Type 0} (t u : Trail T) : Type 0 where
  pub holds : held u ≡ []
  pub places : u.places ≡ t.places
