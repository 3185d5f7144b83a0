-- Which lists of actions lead from a state to the goal, how many actions that takes, and which list comes first.
use Rattle.std.specs.Prelude.{◌≡◌, ℕ, ◌<◌, ◌≤◌, true, ◌⊎◌, List, [], ◌∷◌, length, Ok}
use Rattle.model.specs.Meaning.{Meaning}

-- each action is allowed in the state that those before it reach, and the last state is t
abbrev pub Reaches : {S F : Type 0} → Meaning S F → S → List ℕ → S → Type 0
Reaches m s [] t = t ≡ s
Reaches {S} m s (a ∷ xs) t = (u : S) × (m.step s a ≡ Ok u) × Reaches m u xs t

-- each action is allowed where it falls, and the last state meets the goal
abbrev pub Leads : {S F : Type 0} → Meaning S F → S → List ℕ → Type 0
Leads m s [] = m.at_goal s ≡ true
Leads {S} m s (a ∷ xs) = (t : S) × (m.step s a ≡ Ok t) × Leads m t xs

-- ss are the states that the actions pass, with the one they start from
abbrev pub Passes : {S F : Type 0} → Meaning S F → S → List ℕ → List S → Type 0
Passes m s [] ss = ss ≡ s ∷ []
Passes {S} m s (a ∷ xs) ss = (t : S) × (rest : List S) × (m.step s a ≡ Ok t) × (ss ≡ s ∷ rest) × Passes m t xs rest

-- no list of at most r actions leads to the goal
abbrev pub NoWay : {S F : Type 0} → Meaning S F → S → ℕ → Type 0
NoWay m s r = (xs : List ℕ) → length xs ≤ r → Leads m s xs → ⊥

-- the fewest actions that lead to the goal are d
pub record Distance {S F : Type 0} (m : Meaning S F) (s : S) (d : ℕ) : Type 0 where
  pub reached : (xs : List ℕ) × (length xs ≡ d) × Leads m s xs
  pub least : (xs : List ℕ) → Leads m s xs → d ≤ length xs

-- a is the first of d actions that lead to the goal
abbrev pub Begins : {S F : Type 0} → Meaning S F → S → ℕ → ℕ → Type 0
Begins m s d a = (xs : List ℕ) × (length (a ∷ xs) ≡ d) × Leads m s (a ∷ xs)

-- the first list is a beginning of the second, or has the lower action number at the first difference
abbrev pub NotAfter : List ℕ → List ℕ → Type 0
NotAfter [] ys = Unit {0}
NotAfter (x ∷ xs) [] = ⊥
NotAfter (x ∷ xs) (y ∷ ys) = (x < y) ⊎ ((x ≡ y) × NotAfter xs ys)

-- Of the lists of k actions that lead to the goal the path is the first, and ss are the states that it passes.
pub record First {S F : Type 0} (m : Meaning S F) (s : S) (k : ℕ) (path : List ℕ) (ss : List S) : Type 0 where
  pub passes : Passes m s path ss
  pub counted : length path ≡ k
  pub leads : Leads m s path
  pub first : (ys : List ℕ) → length ys ≡ k → Leads m s ys → NotAfter path ys
