-- A list whose front is written. Assumes nothing.
use Rattle.std.proofs.Common.{◌≡◌, ℕ, ◌≤◌, List, ◌++◌, length, take, drop, sym, ap, ◌∙◌, arith, length-take}
use native.Mathlib.Decide.{dec_le}
use Rattle.std.proofs.lemmas.List.{drop-append-le, take-append-drop}
use Rattle.std.proofs.lemmas.Slice.{drop-append-drop}

-- where the first n elements are written, and those from place k on are as before, so are those of the whole list
pub front_kept : {A : Type 0} (k n : ℕ) (xs ys : List A) → n ≤ length xs → length ys ≡ n → drop k ys ≡ drop k (take n xs) → drop k (ys ++ drop n xs) ≡ drop k xs
front_kept k n xs ys h e same =
    elim (dec_le k n) [
      | yes le ↦
          drop-append-le k ys (drop n xs) (omega arith)
          ∙ ap (λ zs. zs ++ drop n xs) same
          ∙ sym (drop-append-le k (take n xs) (drop n xs) (simp length-take (omega arith)))
          ∙ ap (drop k) (take-append-drop n xs)
      | no gt ↦ drop-append-drop n xs ys k (omega arith) e
    ]
