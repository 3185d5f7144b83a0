-- Which states a network has, where the action language B lets a step lead, and the floors and ceilings of narrowing.
use Rattle.std.specs.Prelude.{◌≡◌, ℕ, zero, suc, ◌+◌, ◌<◌, ◌≤◌, true, false, not, ◌&&◌, ◌||◌, List, [], ◌∷◌, Some, None, Ok, Err, Result}
use Rattle.literals.specs.Literal.{opposite}
use Rattle.literals.specs.Set.{has}
use Rattle.literals.specs.declared.literal.Literal.{Literal}
use Rattle.literals.specs.declared.set.LiteralSet.{LiteralSet}
use Rattle.laws.specs.declared.narrowing.Unsettled.{Unsettled}
use Rattle.laws.specs.declared.narrowing.Unsettled.TheVariants.{NoResult, Open}
use Rattle.laws.specs.Rows.{Literals, Row, impossible, effect, state, Closed, Closure, Unforbidden, closure, effects}

-- the set gives each of the first n fluents one truth value, and has no literal of any other
pub record Total (n : ℕ) (S : Literals) : Type 0 where
  pub one : (l : Literal) → l.place < n → S (opposite l) ≡ not (S l)
  pub none : (l : Literal) → n ≤ l.place → S l ≡ false

-- a state of n fluents: each state law with a true body has a true head, and no body that must never be true is
pub record IsState (n : ℕ) (rows : List Row) (S : Literals) : Type 0 where
  pub total : Total n S
  pub closed : Closed rows S
  pub unforbidden : Unforbidden rows S

-- B lets the action lead from s to t: t is a state, and the closure of the action's effects with what s and t share
pub record Allows (n : ℕ) (rows : List Row) (a : ℕ) (s t : Literals) : Type 0 where
  pub state : IsState n rows t
  pub closure : Closure rows (λ l. effects rows a s l || (s l && t l)) t

-- every literal of s whose opposite is not in X
abbrev pub kept : Literals → Literals → Literals
kept s X l = s l && not (X (opposite l))

abbrev pub joined : Literals → Literals → Literals
joined X Y l = X l || Y l

-- the closure of E with what s keeps against X
abbrev pub against : List Row → Literals → Literals → Literals → Literals
against rows E s X = closure rows (joined E (kept s X))

-- the floors, from the first on; each is made against the ceiling of the one before it
abbrev pub floor : List Row → Literals → Literals → ℕ → Literals
floor rows E s zero = closure rows E
floor rows E s (suc k) = against rows E s (against rows E s (floor rows E s k))

-- the ceiling of a floor
abbrev pub ceiling : List Row → Literals → Literals → ℕ → Literals
ceiling rows E s k = against rows E s (floor rows E s k)

-- the set has no literal with its opposite
abbrev pub Consistent : Literals → Type 0
Consistent X = (l : Literal) → X l ≡ true → X (opposite l) ≡ true → ⊥

-- every head is a literal of the first n fluents
abbrev pub Heads : ℕ → List Row → Type 0
Heads n [] = Unit {0}
Heads n (impossible a body ∷ rows) = Heads n rows
Heads n (effect a h body ∷ rows) = (h.place < n) × Heads n rows
Heads n (state (Some h) body ∷ rows) = (h.place < n) × Heads n rows
Heads n (state None body ∷ rows) = Heads n rows

-- a floor that the next one repeats
pub record LastFloor (rows : List Row) (E s F : Literals) : Type 0 where
  pub turn : ℕ
  pub is : F ≡ floor rows E s turn
  pub repeats : floor rows E s (turn + 1) ≡ F

-- What narrowing answers on the last floor F and its ceiling. 'No result' where the floor has a literal with its opposite or a body
-- that must never be true; else 'open' where the ceiling has a literal with its opposite; else the ceiling.
abbrev pub NarrowSays : List Row → Literals → Literals → Literals → Result LiteralSet Unsettled → Type 0
NarrowSays rows E s F (Err NoResult) = Consistent F → Unforbidden rows F → ⊥
NarrowSays rows E s F (Err Open) = Consistent F × Unforbidden rows F × (Consistent (against rows E s F) → ⊥)
NarrowSays rows E s F (Ok c) = Consistent F × Unforbidden rows F × Consistent (against rows E s F) × (has c ≡ against rows E s F)

-- What narrowing answers for an action in the state s, by the last floor.
pub record Narrowed (rows : List Row) (a : ℕ) (s : Literals) (r : Result LiteralSet Unsettled) : Type 0 where
  pub last : Literals
  pub is_last : LastFloor rows (effects rows a s) s last
  pub says : NarrowSays rows (effects rows a s) s last r

-- What the answer says of B, for a state of n fluents whose rows speak of no other: a state answered is allowed and no other is, and
-- where there is no result none is.
abbrev pub SaysOfB : ℕ → List Row → ℕ → Literals → Result LiteralSet Unsettled → Type 0
SaysOfB n rows a s (Ok c) = Allows n rows a s (has c) × ((t : Literals) → Allows n rows a s t → t ≡ has c)
SaysOfB n rows a s (Err NoResult) = (t : Literals) → Allows n rows a s t → ⊥
SaysOfB n rows a s (Err Open) = Unit {0}
