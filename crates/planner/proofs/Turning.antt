-- What one turn of the search comes to, by the part of it that was taken. Assumes nothing.
use Rattle.std.proofs.Common.{◌≡◌, ℕ, ◌+◌, ◌<◌, ◌≤◌, true, false, List, [], ◌∷◌, ◌++◌, length, Ok, Err, Result, sym, refl, ap, ◌∙◌, subst, subst₂, append-nil, arith, length-append}
use Rattle.model.specs.Meaning.{Meaning, Lawful}
use Rattle.planner.specs.Leads.{Passes, First}
use Rattle.planner.specs.Path.{taken, passed, CanGrow, HasRoom, KeptPast, last_or}
use Rattle.planner.specs.declared.path.Path.{Path}
use Rattle.planner.proofs.Paths.{kept_same, kept_trans, kept_fewer}
use Rattle.planner.specs.Search.{Progress, Tries, Backs, Turned}
use Rattle.planner.specs.declared.search.Turn.{Turn}
use Rattle.planner.specs.declared.search.Turn.TheVariants.{Found, Spent, Next}
use Rattle.planner.proofs.Lasts.{split_last}
use Rattle.planner.proofs.Progress as progress
use Rattle.planner.proofs.Turns.{fewer_deeper, fewer_beside, fewer_back}
use Rattle.planner.proofs.Ways.{allowed_within, passes_length, passes_step}

module _ {S F : Type 0} (m : Meaning S F) (law : Lawful m) (s : S) (k : ℕ) (path : List ℕ) (ss : List S) (next : ℕ) (p : Progress m s k path ss next) where
  counted : length ss ≡ length path + 1
  counted = passes_length m s path ss p.passes

  -- every action of the path is one of 1 to A
  few : (front : List ℕ) (a : ℕ) → path ≡ front ++ (a ∷ []) → a ≤ 200
  few front a e =
      let last = passes_step m s front ss a (subst (λ l. Passes m s l ss) e p.passes) in
      omega (arith, allowed_within m law last.0 last.1 a last.3, law.few)

  module _ (at : S) (ends : at ≡ last_or ss s) where
    split : (front : List S) × (ss ≡ front ++ (at ∷ []))
    split =
        let parts = split_last ss s (omega (arith, counted)) in
        (parts.0, parts.1 ∙ ap (λ u. parts.0 ++ (u ∷ [])) (sym ends))

    ahead : Progress m s k path (split.0 ++ (at ∷ [])) next
    ahead = subst (λ l. Progress m s k path l next) split.1 p

    turn_finds : length path ≡ k → m.at_goal at ≡ true → First m s k path ss
    turn_finds e goal =
        subst (λ l. First m s k path l) (sym split.1) (progress.finds m law s k path split.0 at next ahead e goal)

    spent_whole : length path ≡ k → m.at_goal at ≡ false → progress.Spent m k path at next
    spent_whole = progress.spent_whole m law s k path split.0 at next ahead

    spent_level : length path < k → m.actions < next → progress.Spent m k path at next
    spent_level = progress.spent_level m law s k path split.0 at next ahead

    turn_backs : progress.Spent m k path at next → (r : Turn) (ss' : List S) (path' : List ℕ) → Backs ss path r ss' path' → Turned m s k path next r path' ss'
    turn_backs spent Found ss' path' h = absurd h
    turn_backs spent Spent ss' path' h =
        progress.exhausted m law s k split.0 at next
        (subst (λ l. Progress m s k l (split.0 ++ (at ∷ [])) next) h ahead)
        (subst (λ l. progress.Spent m k l at next) h spent)
    turn_backs spent (Next n) ss' path' h =
        let a = h.0 in
        let e = h.1 in
        let shorter : length path' < k = omega (arith, p.short, ap length e, length-append path' (a ∷ [])) in
        let back = progress.returns m law s k path' a split.0 at next
        (subst (λ l. Progress m s k l (split.0 ++ (at ∷ [])) next) e ahead)
        (subst (λ l. progress.Spent m k l at next) e spent) in
        let fewer = fewer_back m.actions k path' shorter a next in
        (subst₂ (λ l i. Progress m s k path' l i) (sym (h.3 split.0 at split.1)) (sym h.2) back, rw (h.2, e) (rw append-nil at fewer))

    turn_tries_by : (q : Result S F) → m.step at next ≡ q → length path < k → next ≤ m.actions → (r : Turn) (ss' : List S) (path' : List ℕ) → Tries q ss path next r ss' path' → Turned m s k path next r path' ss'
    turn_tries_by (Ok t) e shorter low r ss' path' h =
        let on = progress.moves m law s k path split.0 at next ahead t shorter e in
        let fewer = fewer_deeper m.actions k path shorter next low in
        rw (h.0, h.1, h.2) (subst (λ l. Progress m s k (path ++ (next ∷ [])) (l ++ (t ∷ [])) 1) (sym split.1) on, rw append-nil at fewer)
    turn_tries_by (Err f) e shorter low r ss' path' h =
        let on = progress.blocked m law s k path split.0 at next ahead f low e in
        let fewer = fewer_beside m.actions k path shorter next low in
        rw (h.0, h.1, h.2) (subst (λ l. Progress m s k path l (next + 1)) (sym split.1) on, rw append-nil at fewer)

    turn_tries : length path < k → next ≤ m.actions → (r : Turn) (ss' : List S) (path' : List ℕ) → Tries (m.step at next) ss path next r ss' path' → Turned m s k path next r path' ss'
    turn_tries = turn_tries_by (m.step at next) refl

-- The same on a path p that was only asked since it was q.
module _ {S F : Type 0} {m : Meaning S F} (law : Lawful m) {s : S} {k : ℕ} {q p : Path S} (same : p ≡ q) {next : ℕ} (h : Progress m s k (taken q) (passed q) next) where
  now : Progress m s k (taken p) (passed p) next
  now = subst (λ x. Progress m s k (taken x) (passed x) next) (sym same) h

  lengths : length (taken p) ≡ length (taken q)
  lengths = ap (λ x. length (taken x)) same

  since : (r : Turn) (p' : Path S) → Turned m s k (taken p) next r (taken p') (passed p') → Turned m s k (taken q) next r (taken p') (passed p')
  since r p' = subst (λ x. Turned m s k (taken x) next r (taken p') (passed p')) same

  pub path_few : (front : List ℕ) (a : ℕ) → taken p ≡ front ++ (a ∷ []) → a ≤ 200
  path_few = few m law s k (taken p) (passed p) next now

  pub can_grow : HasRoom k q → length (taken q) < k → CanGrow p
  can_grow room shorter =
      let c = counted m law s k (taken p) (passed p) next now in
      let there = subst (HasRoom k) (sym same) room in
      record { states = omega (arith, lengths, c, there.states); actions = omega (arith, lengths, there.actions) }

  pub kept_grown : length (taken q) < k → (p' : Path S) → KeptPast (length (passed p) + 1) (length (taken p) + 1) p p' → KeptPast (k + 1) k q p'
  kept_grown shorter p' kept =
      let c = counted m law s k (taken p) (passed p) next now in
      kept_trans (kept_same (k + 1) k same) (kept_fewer (omega (arith, lengths, c)) (omega (arith, lengths)) kept)

  module _ {at : S} (ends : at ≡ last_or (passed q) s) where
    end : at ≡ last_or (passed p) s
    end = ends ∙ ap (λ x. last_or (passed x) s) (sym same)

    pub found : length (taken q) ≡ k → m.at_goal at ≡ true → First m s k (taken p) (passed p)
    found whole goal = turn_finds m law s k (taken p) (passed p) next now at end (lengths ∙ whole) goal

    pub whole_back : length (taken q) ≡ k → m.at_goal at ≡ false → (r : Turn) (p' : Path S) → Backs (passed p) (taken p) r (passed p') (taken p') → Turned m s k (taken q) next r (taken p') (passed p')
    whole_back whole goal r p' b =
        since r p' (turn_backs m law s k (taken p) (passed p) next now at end (spent_whole m law s k (taken p) (passed p) next now at end (lengths ∙ whole) goal) r (passed p') (taken p') b)

    pub level_back : length (taken q) < k → m.actions < next → (r : Turn) (p' : Path S) → Backs (passed p) (taken p) r (passed p') (taken p') → Turned m s k (taken q) next r (taken p') (passed p')
    level_back shorter past r p' b =
        since r p' (turn_backs m law s k (taken p) (passed p) next now at end (spent_level m law s k (taken p) (passed p) next now at end (omega (arith, lengths)) past) r (passed p') (taken p') b)

    pub gone_on : length (taken q) < k → next ≤ m.actions → (r : Turn) (p' : Path S) → Tries (m.step at next) (passed p) (taken p) next r (passed p') (taken p') → Turned m s k (taken q) next r (taken p') (passed p')
    gone_on shorter low r p' t =
        since r p' (turn_tries m law s k (taken p) (passed p) next now at end (omega (arith, lengths)) low r (passed p') (taken p') t)
