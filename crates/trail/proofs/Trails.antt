-- The first of the places that a trail stands over. Assumes nothing.
use Rattle.std.proofs.Common.{◌≡◌, ℕ, zero, suc, List, [], ◌∷◌, ◌++◌, length, take, drop, sym, refl, ap, ◌∙◌, append_assoc}
use Rattle.std.proofs.lemmas.List.{take-append-drop, take_at}

-- a length beyond the places counts as all of them
pub take_used : {T : Type 0} (xs : List T) (n : ℕ) → take (length (take n xs)) xs ≡ take n xs
take_used xs zero = refl
take_used [] (suc n) = refl
take_used (x ∷ xs) (suc n) = ap (λ ys. x ∷ ys) (take_used xs n)

-- what stands before the last of the first n
pub take_front : {T : Type 0} (xs front : List T) (n : ℕ) (x : T) → take n xs ≡ front ++ (x ∷ []) → take (length front) xs ≡ front
take_front xs front n x e =
    let whole : xs ≡ front ++ ((x ∷ []) ++ drop n xs) = sym (take-append-drop n xs) ∙ ap (λ ys. ys ++ drop n xs) e ∙ append_assoc front (x ∷ []) (drop n xs) in
    ap (take (length front)) whole ∙ take_at front ((x ∷ []) ++ drop n xs) (length front) refl
