-- Calls carried out one after the other, with a log that grows by each. Assumes nothing.
use Rattle.std.proofs.Common.{◌≡◌, ℕ, ◌+◌, ◌-◌, ◌<◌, ◌≤◌, List, [], ◌∷◌, ◌++◌, length, get_or, take, drop, Result, sym, refl, ap, ◌∙◌, subst, subst₂, arith, length-take}
use Rattle.std.proofs.lemmas.List.{drop-drop, length-map, map-append, take_more}
use Rattle.model.specs.Meaning.{Meaning}
use Rattle.model.specs.Shown.{Shown}
use Rattle.model.specs.declared.Model.{Ghosts}
use Rattle.trail.proofs.Effects.{kept_trans, kept_fewer, kept_added, pushed_added}
use Rattle.trail.specs.Ends.{Added, Pushed}
use Rattle.trail.specs.Held.{held, room, KeptFrom}
use Rattle.trail.specs.declared.Trail.{Trail}
use Rattle.trail.specs.declared.fault.TrailFault.{TrailFault}
use Rattle.campaign.proofs.Runs.{reckoned-append, follows_push}
use Rattle.campaign.specs.Ledger.{opening, reckon, reckoned}
use Rattle.campaign.specs.Promise.{Promise}
use Rattle.campaign.specs.Says.{Says}
use Rattle.campaign.specs.declared.Campaign.{Campaign}
use Rattle.campaign.specs.declared.answer.Answer.{Answer}
use Rattle.campaign.specs.declared.call.Call.{Call}
use Rattle.campaign.specs.declared.call.Event.{Event}
use Rattle.replay.specs.Carried.{Carried}
use Rattle.replay.specs.Logged.{limited, Logged}
use Rattle.replay.specs.Places.{Unplanned, NonePlanned, PlacesHold, PlacesKept}
use Rattle.replay.specs.Replayed.{Followed, Replayed}

-- ---- the lent places

none_planned_front : {S : Type 0} (log : List (Event S)) (e : Event S) → NonePlanned (log ++ (e ∷ [])) → NonePlanned log
none_planned_front [] e h = tt
none_planned_front (x ∷ log) e h = (h.0, none_planned_front log e h.1)

none_planned_last : {S : Type 0} (log : List (Event S)) (e : Event S) → NonePlanned (log ++ (e ∷ [])) → Unplanned e.answer
none_planned_last [] e h = h.0
none_planned_last (x ∷ log) e h = none_planned_last log e h.1

-- where the elements from place j on are as before, so are those from a later place on
later : {A : Type 0} (j n : ℕ) (xs xs' : List A) → j ≤ n → drop j xs' ≡ drop j xs → drop n xs' ≡ drop n xs
later {A = A} j n xs xs' h same =
    let at : (ys : List A) → drop n ys ≡ drop (n - j) (drop j ys) = λ ys. ap (λ i. drop i ys) (omega arith) ∙ sym (drop-drop (n - j) j ys) in
    at xs' ∙ ap (drop (n - j)) same ∙ sym (at xs)

module _ {S : Type 0} (b : ℕ) where
  -- one call more, with r steps left of the bound
  places_more : {F : Type 0} {m : Meaning S F} {s : S} {r : ℕ} (log : List (Event S)) (e : Event S) (ss ss' ss'' : List S) (xs xs' xs'' : List ℕ) → r ≤ b → PlacesKept b log ss ss' xs xs' → PlacesHold m s r e.answer ss' ss'' xs' xs'' → PlacesKept b (log ++ (e ∷ [])) ss ss'' xs xs''
  places_more {r = r} log e ss ss' ss'' xs xs' xs'' h kept here =
      record {
        states = later (r + 1) (b + 1) ss' ss'' (omega arith) here.states ∙ kept.states;
        actions = later r b xs' xs'' h here.actions ∙ kept.actions;
        unused = λ none.
            let before = kept.unused (none_planned_front log e none) in
            let same = here.unused (none_planned_last log e none) in
            (same.0 ∙ before.0, same.1 ∙ before.1);
      }

-- ---- the calls

-- The model is told by its meaning and by what it shows; ss, xs and t are the places and the log at the start.
module _ {M S F : Type 0} (meaning : M → Meaning S F) (shown : M → Shown S) (b : ℕ) (model : M) (ss : List S) (xs : List ℕ) (t : Trail (Event S)) where
  abbrev m : Meaning S F
  m = meaning model

  abbrev v : Shown S
  v = shown model

  module _ {G : Ghosts M S F} where
    -- before the first
    pub replayed_none : (c : Campaign M S F G) (t' : Trail (Event S)) → c.model ≡ model → c.bound ≡ b → c.ledger ≡ opening m → Promise (meaning c.model) c.bound c.ledger → held t' ≡ [] → KeptFrom 0 t t' → Replayed m v b model [] ss ss xs xs t t' c
    replayed_none c t' model_same bound_same first promise none kept =
        let promise' : Promise m b (opening m) = subst (Promise m b) first (subst₂ (λ x d. Promise (meaning x) d c.ledger) model_same bound_same promise) in
        record {
          fits = omega arith;
          logged = subst (λ log. Logged m v b (length ss) (length xs) [] log) (sym none) (record { calls = refl; follows = tt; promised = promise' v [] tt });
          campaign = record { model_same = model_same; bound_same = bound_same; ledger = first ∙ ap (reckoned m (opening m)) (sym none); promise = promise' };
          places = record { states = refl; actions = refl; unused = λ _. (refl, refl) };
          log_kept = kept;
        }

    -- one more
    module _ (cs : List (Call S)) (i : ℕ) (call : Call S) (within : i < length cs) (at : call ≡ get_or cs i call) (fits : length cs ≤ room t) (c c' : Campaign M S F G) (ss' ss'' : List S) (xs' xs'' : List ℕ) (t' t'' : Trail (Event S)) (a : Answer) (so_far : Replayed m v b model (take i cs) ss ss' xs xs' t t' c) where
      abbrev carried_call : Call S
      carried_call = limited (length ss) (length xs) call

      abbrev event : Event S
      event = record { call = carried_call; answer = a }

      next : take (i + 1) cs ≡ take i cs ++ (call ∷ [])
      next = take_more cs i call within ∙ ap (λ x. take i cs ++ (x ∷ [])) (sym at)

      counted : length (held t') ≡ i
      counted = omega (arith, sym (length-map (held t') (λ e. e.call)) ∙ ap length so_far.logged.calls ∙ length-map (take i cs) (limited (length ss) (length xs)), length-take i cs)

      module _ (here : Carried m v c carried_call a c' ss' ss'' xs' xs'') (added : Added t' event t'') where
        logged : Logged m v b (length ss) (length xs) (take i cs ++ (call ∷ [])) (held t' ++ (event ∷ []))
        logged =
            let says = subst₂ (λ d l. Says m v d l carried_call a) so_far.campaign.bound_same so_far.campaign.ledger here.says in
            let follows = follows_push m v b (held t') (opening m) event so_far.logged.follows says in
            record {
              calls = map-append (λ e. e.call) (held t') (event ∷ []) ∙ ap (λ ds. ds ++ (carried_call ∷ [])) so_far.logged.calls ∙ sym (map-append (limited (length ss) (length xs)) (take i cs) (call ∷ []));
              follows = follows;
              promised = so_far.campaign.promise v _ follows;
            }

        followed : Followed m b model (held t' ++ (event ∷ [])) c'
        followed =
            record {
              model_same = here.leaves.model ∙ so_far.campaign.model_same;
              bound_same = here.leaves.bound ∙ so_far.campaign.bound_same;
              ledger = here.leaves.ledger ∙ ap (λ l. reckon m l carried_call a) so_far.campaign.ledger ∙ sym (reckoned-append m (held t') (event ∷ []) (opening m));
              promise = so_far.campaign.promise;
            }

        more : Replayed m v b model (take (i + 1) cs) ss ss'' xs xs'' t t'' c'
        more =
            let more_calls : length (take (i + 1) cs) ≡ i + 1 = omega (arith, length-take (i + 1) cs) in
            let calls : length (take i cs) ≡ i = omega (arith, length-take i cs) in
            let log = sym added.holds in
            record {
              fits = omega arith;
              logged = subst₂ (λ ds es. Logged m v b (length ss) (length xs) ds es) (sym next) log logged;
              campaign = subst (λ es. Followed m b model es c') log followed;
              places = subst (λ es. PlacesKept b es ss ss'' xs xs'') log (places_more b (held t') event ss ss' ss'' xs xs' xs'' (omega (arith, so_far.campaign.bound_same)) so_far.places here.places);
              log_kept = kept_trans (kept_fewer _ _ (omega arith) so_far.log_kept) (kept_added _ t' t'' event added (omega (arith, counted)));
            }

      pub replayed_more : (r : Result ℕ TrailFault) (d : Call S) → d ≡ limited (length ss') (length xs') call → length ss' ≡ length ss → length xs' ≡ length xs → Carried (meaning c.model) (shown c.model) c (limited (length ss') (length xs') call) a c' ss' ss'' xs' xs'' → Pushed t' (record { call = d; answer = a }) r t'' → Replayed m v b model (take (i + 1) cs) ss ss'' xs xs'' t t'' c'
      replayed_more r d ed es ex carried pushed =
          let same : limited (length ss') (length xs') call ≡ carried_call = ap (λ n. limited n (length xs') call) es ∙ ap (λ k. limited (length ss) k call) ex in
          more
          (subst₂ (λ x d. Carried (meaning x) (shown x) c d a c' ss' ss'' xs' xs'') so_far.campaign.model_same same carried)
          (pushed_added t' t'' event r (subst (λ x. Pushed t' (record { call = x; answer = a }) r t'') (ed ∙ same) pushed) (omega (arith, counted, so_far.log_kept.room_same)))
