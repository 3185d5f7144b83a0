-- The last element of a list. Assumes nothing.
use Rattle.std.proofs.Common.{◌≡◌, ◌-◌, ◌<◌, List, [], ◌∷◌, ◌++◌, length, get_or, unwrap_or, slice_get, refl, ap, ◌∙◌, arith}
use Rattle.std.proofs.lemmas.Option.{unwrap_or-slice_get}
use Rattle.planner.specs.Path.{last_or}

module _ {T : Type 0} where
  get_or-last : (x : T) (xs : List T) (d : T) → get_or (x ∷ xs) (length xs) d ≡ last_or xs x
  get_or-last x [] d = refl
  get_or-last x (y ∷ ys) d = get_or-last y ys d

  pub last_item : (xs : List T) (d : T) → unwrap_or (slice_get xs (length xs - 1)) d ≡ last_or xs d
  last_item [] d = refl
  last_item (x ∷ xs) d =
      unwrap_or-slice_get (x ∷ xs) (length (x ∷ xs) - 1) d ∙ ap (λ i. get_or (x ∷ xs) i d) (omega arith) ∙ get_or-last x xs d

  -- a list with an element is a front and its last element
  pub split_last : (xs : List T) (d : T) → 0 < length xs → (front : List T) × (xs ≡ front ++ (last_or xs d ∷ []))
  split_last [] d h = absurd (omega arith)
  split_last (x ∷ []) d h = ([], refl)
  split_last (x ∷ (y ∷ ys)) d h = let rest = split_last (y ∷ ys) x (omega arith) in (x ∷ rest.0, ap (λ l. x ∷ l) rest.1)
