-- What the slice of a trail's places holds, by the first n of them that are in use. No public contract names these.
use Rattle.std.specs.Prelude.{◌≡◌, ℕ, ◌+◌, ◌<◌, ◌≤◌, List, [], ◌∷◌, ◌++◌, length, take, Some, None, Ok, Err, Option, Result, slice_set}
use Rattle.trail.specs.declared.fault.TrailFault.{TrailFault}
use Rattle.trail.specs.declared.fault.TrailFault.TheVariants.{Full}

-- the last element of the first n, and how many stand before it
abbrev pub Last : {T : Type 0} → List T → ℕ → Option (T × ℕ) → Type 0
Last xs n None = take n xs ≡ []
Last xs n (Some r) = take n xs ≡ take r.1 xs ++ (r.0 ∷ [])

-- x is written behind the first n of xs, which then is ys; or no place is left
abbrev pub Puts : {T : Type 0} → List T → ℕ → T → Result ℕ TrailFault → List T → Type 0
Puts xs n x (Err Full) ys = (length xs ≤ length (take n xs)) × (ys ≡ xs)
Puts xs n x (Ok k) ys =
    (length (take n xs) < length xs)
    × (k ≡ length (take n xs) + 1)
    × (ys ≡ slice_set xs (length (take n xs)) x)
    × (take k ys ≡ take n xs ++ (x ∷ []))
