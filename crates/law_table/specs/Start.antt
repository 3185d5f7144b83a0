-- The literals that were given for the start of a draft.
use Rattle.std.specs.Prelude.{◌≡◌, ℕ, zero, suc, ◌+◌, ◌<◌, ℤ, Bool, true, false, not, ◌&&◌, ◌||◌, Option, Some, None, List, [], ◌∷◌, if◌then◌else◌, Result, Ok, Err}
use Rattle.literals.specs.Literal.{number_of, same, opposite}
use Rattle.literals.specs.Set.{has}
use Rattle.literals.specs.declared.literal.Literal.{Literal}
use Rattle.law_table.specs.declared.draft.Draft.{Draft}
use Rattle.law_table.specs.declared.fault.EntryFault.{EntryFault}

-- how often the literal is in the list
abbrev pub count : Literal → List Literal → ℕ
count k [] = 0
count k (l ∷ ls) = if same l k then suc (count k ls) else count k ls

abbrev pub at_least_once : ℕ → Bool
at_least_once zero = false
at_least_once (suc n) = true

abbrev pub more_than_once : ℕ → Bool
more_than_once zero = false
more_than_once (suc n) = at_least_once n

-- The literals given so far are those of the list: the draft tells of each whether it was given, and whether more than once.
abbrev pub Given : Draft → List Literal → Type 0
Given d ls = (k : Literal) → (has d.given k ≡ at_least_once (count k ls)) × (has d.again k ≡ more_than_once (count k ls))

-- after a literal that is taken, those given are one more
abbrev pub GivenAfter : List Literal → ℤ → Result (Unit {0}) EntryFault → Draft → Type 0
GivenAfter ls number (Ok u) new = (l : Literal) × (number_of l ≡ number) × Given new (l ∷ ls)
GivenAfter ls number (Err e) new = Given new ls

-- whether the fluent of the literal has exactly one start literal
abbrev pub starts_once : Draft → Literal → Bool
starts_once d l = ((has d.given l && not (has d.given (opposite l))) || (not (has d.given l) && has d.given (opposite l))) && (not (has d.again l) && not (has d.again (opposite l)))

-- The lowest fluent that has not exactly one start literal, or that each has.
abbrev pub Unstarted : Draft → Option ℕ → Type 0
Unstarted d (Some f) = ((l : Literal) × (l.holds ≡ true) × (l.place + 1 ≡ f) × (l.place < d.fluents) × (starts_once d l ≡ false)) × ((k : Literal) → k.holds ≡ true → k.place + 1 < f → starts_once d k ≡ true)
Unstarted d None = (k : Literal) → k.holds ≡ true → k.place < d.fluents → starts_once d k ≡ true

-- how often the fluent of the literal is given a truth value
abbrev pub times : Literal → List Literal → ℕ
times l ls = count l ls + count (opposite l) ls

-- The same of the literals that were given.
abbrev pub UnstartedOf : Draft → List Literal → Option ℕ → Type 0
UnstartedOf d ls (Some f) = ((l : Literal) × (l.holds ≡ true) × (l.place + 1 ≡ f) × (l.place < d.fluents) × (times l ls ≡ 1 → ⊥)) × ((k : Literal) → k.holds ≡ true → k.place + 1 < f → times k ls ≡ 1)
UnstartedOf d ls None = (k : Literal) → k.holds ≡ true → k.place < d.fluents → times k ls ≡ 1
