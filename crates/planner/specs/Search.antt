-- How far a depth-first search has come through the lists of exactly k actions. No public contract names these.
use Rattle.std.specs.Prelude.{◌≡◌, ℕ, zero, suc, pred, ◌+◌, ◌-◌, ◌*◌, ◌<◌, ◌≤◌, Bool, true, false, ◌⊎◌, List, [], ◌∷◌, ◌++◌, length, Ok, Err, Result}
use Rattle.model.specs.Meaning.{Meaning}
use Rattle.planner.specs.Leads.{Leads, Passes, First}
use Rattle.planner.specs.declared.search.Turn.{Turn}
use Rattle.planner.specs.declared.search.Turn.TheVariants.{Found, Spent, Next}

-- The search holds a path of actions and the next action to try at its end. It goes through the lists in
-- their order, so it has tried xs where xs comes before every list that goes on from the path with that action.
abbrev pub Tried : List ℕ → ℕ → List ℕ → Type 0
Tried [] next [] = ⊥
Tried [] next (x ∷ xs) = x < next
Tried (p ∷ path) next [] = ⊥
Tried (p ∷ path) next (x ∷ xs) = (x < p) ⊎ ((x ≡ p) × Tried path next xs)

-- The path passes the states ss, and no list that was tried leads to the goal.
pub record Progress {S F : Type 0} (m : Meaning S F) (s : S) (k : ℕ) (path : List ℕ) (ss : List S) (next : ℕ) : Type 0 where
  pub passes : Passes m s path ss
  pub short : length path ≤ k
  pub next_within : next ≤ m.actions + 1
  pub vain : (xs : List ℕ) → length xs ≡ k → Tried path next xs → Leads m s xs → ⊥

-- no list of exactly k actions leads to the goal
abbrev pub NoneOf : {S F : Type 0} → Meaning S F → S → ℕ → Type 0
NoneOf m s k = (xs : List ℕ) → length xs ≡ k → Leads m s xs → ⊥

-- how many turns it takes to go through all lists of j of n actions and to turn back
unfoldable pub all_turns : ℕ → ℕ → ℕ
all_turns n zero = 1
all_turns n (suc j) = n * (1 + all_turns n j) + 1

-- how many of them are left where `next` is tried first
unfoldable pub level_turns : ℕ → ℕ → ℕ → ℕ
level_turns n zero next = 1
level_turns n (suc j) next = (n + 1 - next) * (1 + all_turns n j) + 1

-- how many are left below and to the right of a path
unfoldable pub turns : ℕ → ℕ → List ℕ → ℕ → ℕ
turns n k [] next = level_turns n k next
turns n k (p ∷ path) next = turns n (pred k) path next + ((n - p) * (1 + all_turns n (pred k)) + 1)

-- What trying an action does, by the answer of its step: the path grows by it, or the action after it comes next.
abbrev pub Tries : {S F : Type 0} → Result S F → List S → List ℕ → ℕ → Turn → List S → List ℕ → Type 0
Tries (Ok t) ss path next r ss' path' = (r ≡ Next 1) × (ss' ≡ ss ++ (t ∷ [])) × (path' ≡ path ++ (next ∷ []))
Tries (Err f) ss path next r ss' path' = (r ≡ Next (next + 1)) × (ss' ≡ ss) × (path' ≡ path)

-- What turning back does: the path loses its last action, the states their last, if they have one, and the action after that
-- comes next. Where the path has no action, all is spent.
abbrev pub Backs : {S : Type 0} → List S → List ℕ → Turn → List S → List ℕ → Type 0
Backs ss path Found ss' path' = ⊥
Backs ss path Spent ss' path' = path ≡ []
Backs {S} ss path (Next n) ss' path' =
    (a : ℕ) × (path ≡ path' ++ (a ∷ [])) × (n ≡ a + 1) × ((front : List S) (u : S) → ss ≡ front ++ (u ∷ []) → ss' ≡ front)

-- What one turn does. Where all is spent it does not matter what the trails hold: they are emptied next.
abbrev pub Turned : {S F : Type 0} → Meaning S F → S → ℕ → List ℕ → ℕ → Turn → List ℕ → List S → Type 0
Turned m s k path next Found path' ss' = First m s k path' ss'
Turned m s k path next Spent path' ss' = NoneOf m s k
Turned m s k path next (Next n) path' ss' = Progress m s k path' ss' n × (turns m.actions k path' n < turns m.actions k path next)

-- What a search through the lists of k actions answers: the first that leads is on the trails, or none leads.
abbrev pub Explored : {S F : Type 0} → Meaning S F → S → ℕ → Bool → List ℕ → List S → Type 0
Explored m s k true path ss = First m s k path ss
Explored m s k false path ss = NoneOf m s k
