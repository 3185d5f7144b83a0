-- What a walk along a list of actions comes to. Assumes nothing.
use Rattle.std.proofs.Common.{◌≡◌, ℕ, ◌+◌, ◌<◌, ◌≤◌, List, [], ◌∷◌, ◌++◌, length, get_or, take, drop, Ok, Err, Result, sym, refl, ap, ◌∙◌, subst, append-nil, arith, length-take}
use Rattle.std.proofs.lemmas.List.{take-append-drop, take_more, take_all, drop_more}
use Rattle.model.specs.Meaning.{Meaning}
use Rattle.planner.specs.Checked.{Stops}
use Rattle.planner.specs.Leads.{Leads, Reaches}
use Rattle.planner.specs.Walked.{Arrives, Broken, placed}
use Rattle.planner.specs.declared.fault.CheckFault.{CheckFault}
use Rattle.planner.specs.declared.fault.CheckFault.TheVariants.{Step}
use Rattle.planner.proofs.Ways.{ok_not_err, leads_reached, leads_rest, reaches_push}

module _ {S F : Type 0} (m : Meaning S F) (s : S) (xs : List ℕ) where
  stops_not_leads : (place : ℕ) (f : F) → Stops m s xs place f → Leads m s xs → ⊥
  stops_not_leads place f h l =
      let rest = leads_rest m s h.at h.before (h.action ∷ h.after) h.reaches (subst (λ ys. Leads m s ys) h.splits l) in
      ok_not_err rest.1 h.cause

  -- the check has come to place i, and the action there gets a cause
  stops_here : (i : ℕ) (at : S) (f : F) → i < length xs → Reaches m s (take i xs) at → m.step at (get_or xs i 0) ≡ Err f → Stops m s xs (i + 1) f
  stops_here i at f h reached cause =
      record {
        before = take i xs;
        action = get_or xs i 0;
        after = drop (i + 1) xs;
        at = at;
        splits = sym (take-append-drop i xs) ∙ ap (λ ys. take i xs ++ ys) (drop_more xs i 0 h);
        placed = omega (arith, length-take i xs);
        reaches = reached;
        cause = cause;
      }

  -- one action more
  pub reaches_next : (i : ℕ) (u t : S) → i < length xs → Reaches m s (take i xs) u → m.step u (get_or xs i 0) ≡ Ok t → Reaches m s (take (i + 1) xs) t
  reaches_next i u t h reached e =
      subst (λ ys. Reaches m s ys t) (sym (take_more xs i 0 h)) (reaches_push m s u t (take i xs) (get_or xs i 0) reached e)

  pub broken : (i : ℕ) (at : S) (f : F) → i < length xs → Reaches m s (take i xs) at → m.step at (get_or xs i 0) ≡ Err f → Broken m s xs (i + 1) f
  broken i at f h reached cause =
      let stops = stops_here i at f h reached cause in
      record { stops = stops; never = stops_not_leads (i + 1) f stops }

  -- the list is at its end
  pub arrives : (i : ℕ) (t : S) → length xs ≤ i → Reaches m s (take i xs) t → Arrives m s xs t
  arrives i t h reached =
      let whole = subst (λ ys. Reaches m s ys t) (take_all i xs h) reached in
      record {
        reaches = whole;
        leads = leads_reached m s t xs whole;
        only = λ l. leads_rest m s t xs [] whole (subst (λ ys. Leads m s ys) (sym (append-nil xs)) l);
      }

-- what a placed step says of the step
pub placed_ok : {S F : Type 0} (r : Result S F) (place : ℕ) (t : S) → placed place r ≡ Ok t → r ≡ Ok t
placed_ok (Ok u) place t e = cc
placed_ok (Err f) place t e = let z : ◌≡◌ {A = ℕ} 0 1 = cc in absurd (omega arith)

pub placed_err : {S F : Type 0} (r : Result S F) (place : ℕ) (e : CheckFault F) → placed place r ≡ Err e → (f : F) × (r ≡ Err f) × (e ≡ Step place f)
placed_err (Ok u) place e h = let z : ◌≡◌ {A = ℕ} 0 1 = cc in absurd (omega arith)
placed_err (Err f) place e h = (f, refl, cc)
