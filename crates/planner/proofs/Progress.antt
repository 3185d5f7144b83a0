-- What each turn of the depth-first search keeps true. Assumes nothing.
use Rattle.std.proofs.Common.{◌≡◌, ℕ, ◌+◌, ◌<◌, ◌≤◌, true, false, ◌⊎◌, List, [], ◌∷◌, ◌++◌, length, Ok, Err, sym, refl, ap, ◌∙◌, subst, inl, inr, append_assoc, arith, length-append}
use native.Mathlib.Decide.{dec_lt}
use Rattle.model.specs.Meaning.{Meaning, Lawful}
use Rattle.planner.specs.Leads.{Leads, Reaches, NotAfter, First}
use Rattle.planner.specs.Search.{Tried, Progress, NoneOf}
use Rattle.planner.proofs.Ways.{ok_not_err, true_not_false, allowed_within, allowed_positive, leads_rest, leads_reached, passes_last, passes_push, passes_pop, passes_step}

-- of two lists of one length, the first is not after the second, or the second was tried before it
tried_or_not_after : (xs ys : List ℕ) (next : ℕ) → length xs ≡ length ys → NotAfter xs ys ⊎ Tried xs next ys
tried_or_not_after [] ys next e = inl tt
tried_or_not_after (x ∷ xs) [] next e = absurd (omega arith)
tried_or_not_after (x ∷ xs) (y ∷ ys) next e =
    elim (dec_lt x y) [
      | yes h ↦ inl (inl h)
      | no h ↦ elim (dec_lt y x) [
        | yes l ↦ inr (inl l)
        | no l ↦ elim (tried_or_not_after xs ys next (omega arith)) [
          | inl after ↦ inl (inr (omega arith, after))
          | inr tried ↦ inr (inr (omega arith, tried))
        ]
      ]
    ]

-- what was tried before an action was tried stays tried below it
tried_below : (path xs : List ℕ) (a next : ℕ) → Tried path a xs → Tried (path ++ (a ∷ [])) next xs
tried_below [] [] a next h = absurd h
tried_below [] (x ∷ xs) a next h = inl h
tried_below (p ∷ path) [] a next h = absurd h
tried_below (p ∷ path) (x ∷ xs) a next (inl h) = inl h
tried_below (p ∷ path) (x ∷ xs) a next (inr h) = inr (h.0, tried_below path xs a next h.1)

-- what is tried below an action was tried before it, or goes on from it
below_tried : (path xs : List ℕ) (a next : ℕ) → Tried (path ++ (a ∷ [])) next xs → Tried path a xs ⊎ ((ys : List ℕ) × (xs ≡ path ++ (a ∷ ys)) × Tried [] next ys)
below_tried [] [] a next h = absurd h
below_tried [] (x ∷ xs) a next (inl h) = inl h
below_tried [] (x ∷ xs) a next (inr h) = inr (xs, ap (λ y. y ∷ xs) h.0, h.1)
below_tried (p ∷ path) [] a next h = absurd h
below_tried (p ∷ path) (x ∷ xs) a next (inl h) = inl (inl h)
below_tried (p ∷ path) (x ∷ xs) a next (inr h) =
    elim (below_tried path xs a next h.1) [
      | inl t ↦ inl (inr (h.0, t))
      | inr b ↦ inr (b.0, (ap (λ y. y ∷ xs) h.0 ∙ ap (λ l. p ∷ l) b.1), b.2)
    ]

-- what is tried once an action was tried was tried before it, or goes on from it
tried_next : (path xs : List ℕ) (a : ℕ) → Tried path (a + 1) xs → Tried path a xs ⊎ ((ys : List ℕ) × (xs ≡ path ++ (a ∷ ys)))
tried_next [] [] a h = absurd h
tried_next [] (x ∷ xs) a h = elim (dec_lt x a) [ yes l ↦ inl l | no l ↦ inr (xs, ap (λ y. y ∷ xs) (omega arith)) ]
tried_next (p ∷ path) [] a h = absurd h
tried_next (p ∷ path) (x ∷ xs) a (inl h) = inl (inl h)
tried_next (p ∷ path) (x ∷ xs) a (inr h) =
    elim (tried_next path xs a h.1) [
      | inl t ↦ inl (inr (h.0, t))
      | inr b ↦ inr (b.0, ap (λ y. y ∷ xs) h.0 ∙ ap (λ l. p ∷ l) b.1)
    ]

-- a list that goes on from the path with an action before the next was tried
tried_here : (path : List ℕ) (x next : ℕ) (xs : List ℕ) → x < next → Tried path next (path ++ (x ∷ xs))
tried_here [] x next xs h = h
tried_here (p ∷ path) x next xs h = inr (refl, tried_here path x next xs h)

-- Nothing is left to try from u, the end of the path: each list that leads on from it was tried.
abbrev pub Spent : {S F : Type 0} → Meaning S F → ℕ → List ℕ → S → ℕ → Type 0
Spent m k path u next = (ys : List ℕ) → length (path ++ ys) ≡ k → Leads m u ys → Tried path next (path ++ ys)

module _ {S F : Type 0} (m : Meaning S F) (law : Lawful m) (s : S) (k : ℕ) where
  pub starts : Progress m s k [] (s ∷ []) 1
  starts = record { passes = refl; short = omega arith; next_within = omega arith; vain = none }
    where
      none : (xs : List ℕ) → length xs ≡ k → Tried [] 1 xs → Leads m s xs → ⊥
      none [] e h l = h
      none (x ∷ xs) e h l = omega (arith, allowed_positive m law s l.0 x l.1)

  module _ (path : List ℕ) (front : List S) (u : S) (next : ℕ) (p : Progress m s k path (front ++ (u ∷ [])) next) where
    here : Reaches m s path u
    here = passes_last m s path front u p.passes

    pub finds : length path ≡ k → m.at_goal u ≡ true → First m s k path (front ++ (u ∷ []))
    finds e goal =
        record {
          passes = p.passes;
          counted = e;
          leads = leads_reached m s u path here goal;
          first = λ ys f l. elim (tried_or_not_after path ys next (e ∙ sym f)) [ inl h ↦ h | inr h ↦ absurd (p.vain ys f h l) ];
        }

    -- the action is not allowed here
    pub blocked : (f : F) → next ≤ m.actions → m.step u next ≡ Err f → Progress m s k path (front ++ (u ∷ [])) (next + 1)
    blocked f h e = record { passes = p.passes; short = p.short; next_within = omega arith; vain = none }
      where
        none : (xs : List ℕ) → length xs ≡ k → Tried path (next + 1) xs → Leads m s xs → ⊥
        none xs c t l = elim (tried_next path xs next t) [
          | inl before ↦ p.vain xs c before l
          | inr on ↦ ok_not_err (leads_rest m s u path (next ∷ on.0) here (subst (λ ys. Leads m s ys) on.1 l)).1 e
        ]

    -- the action leads on
    pub moves : (t : S) → length path < k → m.step u next ≡ Ok t → Progress m s k (path ++ (next ∷ [])) ((front ++ (u ∷ [])) ++ (t ∷ [])) 1
    moves t h e =
        record {
          passes = passes_push m s u t path (front ++ (u ∷ [])) next p.passes here e;
          short = omega (arith, length-append path (next ∷ []));
          next_within = omega arith;
          vain = none;
        }
      where
        zero_not_first : (v : S) (ys : List ℕ) → Tried [] 1 ys → Leads m v ys → ⊥
        zero_not_first v [] h l = h
        zero_not_first v (y ∷ ys) h l = omega (arith, allowed_positive m law v l.0 y l.1)

        none : (xs : List ℕ) → length xs ≡ k → Tried (path ++ (next ∷ [])) 1 xs → Leads m s xs → ⊥
        none xs c t l = elim (below_tried path xs next 1 t) [
          | inl before ↦ p.vain xs c before l
          | inr on ↦ let rest = leads_rest m s u path (next ∷ on.0) here (subst (λ ys. Leads m s ys) on.1 l) in zero_not_first rest.0 on.0 on.2 rest.2
        ]

    pub spent_whole : length path ≡ k → m.at_goal u ≡ false → Spent m k path u next
    spent_whole e goal [] c l = absurd (true_not_false l goal)
    spent_whole e goal (y ∷ ys) c l = absurd (omega (arith, length-append path (y ∷ ys)))

    pub spent_level : length path < k → m.actions < next → Spent m k path u next
    spent_level h n [] c l = absurd (omega (arith, length-append path []))
    spent_level h n (y ∷ ys) c l = tried_here path y next ys (omega (arith, allowed_within m law u l.0 y l.1))

  -- the path is empty, and nothing is left to try
  pub exhausted : (front : List S) (u : S) (next : ℕ) (p : Progress m s k [] (front ++ (u ∷ [])) next) → Spent m k [] u next → NoneOf m s k
  exhausted front u next p spent xs c l =
      p.vain xs c (spent xs c (leads_rest m s u [] xs (passes_last m s [] front u p.passes) l)) l

  -- back to the state before, where the action after the last one comes next
  pub returns : (path : List ℕ) (a : ℕ) (front : List S) (u : S) (next : ℕ) (p : Progress m s k (path ++ (a ∷ [])) (front ++ (u ∷ [])) next) → Spent m k (path ++ (a ∷ [])) u next → Progress m s k path front (a + 1)
  returns path a front u next p spent =
      record {
        passes = passes_pop m s u path front a p.passes;
        short = omega (arith, length-append path (a ∷ []), p.short);
        next_within = let last = passes_step m s path (front ++ (u ∷ [])) a p.passes in omega (arith, allowed_within m law last.0 last.1 a last.3);
        vain = none;
      }
    where
      whole : List ℕ
      whole = path ++ (a ∷ [])

      goes_on : (ys : List ℕ) → length (whole ++ ys) ≡ k → Leads m s (whole ++ ys) → ⊥
      goes_on ys c l =
          p.vain (whole ++ ys) c (spent ys c (leads_rest m s u whole ys (passes_last m s whole front u p.passes) l)) l

      none : (xs : List ℕ) → length xs ≡ k → Tried path (a + 1) xs → Leads m s xs → ⊥
      none xs c t l = elim (tried_next path xs a t) [
        | inl before ↦ p.vain xs c (tried_below path xs a next before) l
        | inr on ↦ let e = on.1 ∙ sym (append_assoc path (a ∷ []) on.0) in goes_on on.0 (sym (ap length e) ∙ c) (subst (λ ys. Leads m s ys) e l)
      ]
