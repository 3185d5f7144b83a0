-- Each turn of the search leaves fewer turns to take. Assumes nothing.
use Rattle.std.proofs.Common.{◌≡◌, ℕ, zero, suc, pred, ◌+◌, ◌-◌, ◌*◌, ◌<◌, ◌≤◌, List, [], ◌∷◌, ◌++◌, length, sym, refl, ap, ◌∙◌, subst, add-mul, arith}
use Rattle.planner.specs.Search.{all_turns, level_turns, turns}

-- how many levels are left below a path
levels : ℕ → List ℕ → ℕ
levels k [] = k
levels k (p ∷ path) = levels (pred k) path

levels_length : (k : ℕ) (path : List ℕ) → levels k path ≡ k - length path
unfolding levels
levels_length k [] = omega arith
levels_length k (p ∷ path) = levels_length (pred k) path ∙ omega arith

-- fewer turns below a path are fewer turns in all
below : (n k : ℕ) (path xs ys : List ℕ) (a b : ℕ) → turns n (levels k path) xs a < turns n (levels k path) ys b → turns n k (path ++ xs) a < turns n k (path ++ ys) b
unfolding turns levels
below n k [] xs ys a b h = h
below n k (p ∷ path) xs ys a b h = let fewer = below n (pred k) path xs ys a b h in omega arith

-- entering a level starts at its first action
entered : (n j : ℕ) → level_turns n j 1 ≡ all_turns n j
unfolding level_turns all_turns
entered n zero = refl
entered n (suc j) = ap (λ x. x * (1 + all_turns n j) + 1) (omega arith)

-- (c + 1) * w is one w more
one_more : (a b w : ℕ) → a ≡ b + 1 → a * w ≡ b * w + w
one_more a b w e = ap (λ x. x * w) e ∙ add-mul b 1 w ∙ omega arith

descends : (n j next : ℕ) → next ≤ n → turns n (suc j) (next ∷ []) 1 < turns n (suc j) [] next
unfolding turns level_turns
descends n j next h = omega (arith, entered n j, one_more (n + 1 - next) (n - next) (1 + all_turns n j) (omega arith))

passes_by : (n j next : ℕ) → next ≤ n → turns n (suc j) [] (next + 1) < turns n (suc j) [] next
unfolding turns level_turns
passes_by n j next h = omega (arith, one_more (n + 1 - next) (n + 1 - (next + 1)) (1 + all_turns n j) (omega arith))

level_positive : (n j next : ℕ) → 0 < level_turns n j next
unfolding level_turns
level_positive n zero next = omega arith
level_positive n (suc j) next = omega arith

ascends : (n j a next : ℕ) → turns n (suc j) [] (a + 1) < turns n (suc j) (a ∷ []) next
unfolding turns level_turns
ascends n j a next =
    omega (arith, level_positive n j next, ap (λ x. x * (1 + all_turns n j)) (let e : n + 1 - (a + 1) ≡ n - a = omega arith in e))

module _ (n k : ℕ) (path : List ℕ) (short : length path < k) where
  open_level : (j : ℕ) × (levels k path ≡ suc j)
  open_level = (pred (levels k path), omega (arith, levels_length k path))

  at_level : (xs ys : List ℕ) (a b : ℕ) → ((j : ℕ) → turns n (suc j) xs a < turns n (suc j) ys b) → turns n k (path ++ xs) a < turns n k (path ++ ys) b
  at_level xs ys a b h =
      below n k path xs ys a b (subst (λ i. turns n i xs a < turns n i ys b) (sym open_level.1) (h open_level.0))

  pub fewer_deeper : (next : ℕ) → next ≤ n → turns n k (path ++ (next ∷ [])) 1 < turns n k (path ++ []) next
  fewer_deeper next h = at_level (next ∷ []) [] 1 next (λ j. descends n j next h)

  pub fewer_beside : (next : ℕ) → next ≤ n → turns n k (path ++ []) (next + 1) < turns n k (path ++ []) next
  fewer_beside next h = at_level [] [] (next + 1) next (λ j. passes_by n j next h)

  pub fewer_back : (a next : ℕ) → turns n k (path ++ []) (a + 1) < turns n k (path ++ (a ∷ [])) next
  fewer_back a next = at_level [] (a ∷ []) (a + 1) next (λ j. ascends n j a next)
