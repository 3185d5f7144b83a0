-- What holds along every run of calls that follows an opening. Assumes nothing.
use Rattle.std.proofs.Common.{◌≡◌, ℕ, zero, suc, ◌+◌, ◌-◌, ◌≤◌, Bool, true, false, cond, List, [], ◌∷◌, ◌++◌, length, replicate, Some, None, Ok, Option, sym, refl, ap, ◌∙◌, subst, arith}
use Rattle.std.specs.Prelude.{IfSome}
use Rattle.std.specs.Result.{result_unwrap_or}
use native.Mathlib.Decide.{dec_le, dec_lt}
use Rattle.model.specs.Meaning.{Meaning, Lawful}
use Rattle.model.specs.Shown.{Shown}
use Rattle.planner.proofs.Plans.{same_distance}
use Rattle.planner.specs.Leads.{Leads, Distance}
use Rattle.campaign.specs.Ledger.{reckon, reckoned, left}
use Rattle.campaign.specs.Promise.{Follows, Mark, done, failed, found, mark, marks, ask_event, done_event, Asking, Arriving, Standing, Nearing, Promised}
use Rattle.campaign.specs.Says.{Told, Advised, AskSays, Says}
use Rattle.campaign.specs.Sound.{Due, Sound}
use Rattle.campaign.specs.declared.answer.Answer.{Answer}
use Rattle.campaign.specs.declared.answer.Answer.TheVariants as answers
use Rattle.campaign.specs.declared.call.Call.{Call}
use Rattle.campaign.specs.declared.call.Call.TheVariants as calls
use Rattle.campaign.specs.declared.call.Event.{Event}
use Rattle.campaign.specs.declared.ledger.Ledger.{Ledger}
use Rattle.campaign.specs.declared.order.Order.{Order}

same_order : {o p : Order} → answers.Order o ≡ answers.Order p → p ≡ o
same_order e = cc

-- ---- marks that are all 'done'

none_left : (d : ℕ) → [] ≡ replicate d done → d ≡ 0
none_left zero e = refl
none_left (suc d) e = absurd cc

one_done : (d : ℕ) (rest : List Mark) → done ∷ rest ≡ replicate d done → (k : ℕ) × (d ≡ k + 1) × (rest ≡ replicate k done)
one_done zero rest e = absurd cc
one_done (suc d) rest e = (d, omega arith, cc)

head_done : (x : Mark) (d : ℕ) (rest : List Mark) → x ∷ rest ≡ replicate d done → x ≡ done
head_done x zero rest e = absurd cc
head_done x (suc d) rest e = cc

abbrev ledger : {S : Type 0} → S → ℕ → Option Order → Ledger S
ledger s n out = record { stands = s; reports = n; out = out }

module _ {S F : Type 0} (m : Meaning S F) where
  -- at distance 0 the goal is met
  arrived : (s : S) → Distance m s 0 → m.at_goal s ≡ true
  arrived s p = by_list p.reached.0 p.reached.1 p.reached.2
    where
      by_list : (xs : List ℕ) → length xs ≡ 0 → Leads m s xs → m.at_goal s ≡ true
      by_list [] e l = l
      by_list (x ∷ xs) e l = absurd (omega (arith, e))

  module _ (s : S) (r : ℕ) (o : Order) (due : Due m s r o) where
    -- where the order's action leads
    abbrev there : S
    there = due.begins.2.0

    leads_there : m.step s o.action ≡ Ok there
    leads_there = due.begins.2.1

    moves_there : result_unwrap_or (m.step s o.action) s ≡ there
    moves_there = ap (λ r. result_unwrap_or r s) leads_there

    -- done brings the goal one nearer
    brought_nearer : Distance m (result_unwrap_or (m.step s o.action) s) (o.steps - 1)
    brought_nearer =
        subst (λ t. Distance m t (o.steps - 1)) (sym moves_there)
        (record {
          reached = (due.begins.0, omega (arith, due.begins.1), due.begins.2.2);
          least = λ ys l. omega (arith, due.distance.least (o.action ∷ ys) (there, leads_there, l));
        })

  -- an order answered is for a shortest list
  due_when_told : (s : S) (r : ℕ) (o : Order) → Told m s r (answers.Order o) → Due m s r o
  due_when_told s r o told =
      elim (dec_lt 0 told.d) [
        | yes h ↦ let given = told.unmet h in
            subst (λ p. Due m s r p) (same_order given.said) (record { positive = h; within = told.within; distance = told.distance; begins = given.begins })
        | no h ↦ absurd (cc (told.met (omega arith)))
      ]

  pub due_when_advised : (s : S) (r x y : ℕ) (o : Order) → m.is_state s ≡ true → Advised m s r x y (answers.Order o) → Due m s r o
  due_when_advised s r x y o state given =
      elim (dec_le (r + 1) x) [
        | no h ↦ absurd (cc (given.few_states state (omega arith)))
        | yes h ↦ elim (dec_le r y) [
          | no k ↦ absurd (cc (given.few_actions state h (omega arith)))
          | yes k ↦ let said = given.advice state h k in
              due_when_told s r o (said.otherwise (λ none. cc (said.said_when_true none)))
        ]
      ]

  -- with no order out it is enough that the plant stands at a state and that the reports are within the bound
  pub sound_idle : (b : ℕ) (s : S) (n : ℕ) → n ≤ b → m.is_state s ≡ true → Sound m b (ledger s n None)
  sound_idle b s n w h = record { state = h; within = w; order = tt }

  pub sound_ordered : (b : ℕ) (s : S) (n : ℕ) (o : Order) → n ≤ b → m.is_state s ≡ true → Due m s (b - n) o → Sound m b (ledger s n (Some o))
  sound_ordered b s n o w h due = record { state = h; within = w; order = due }

-- ---- runs that follow one another

module _ {S F : Type 0} (m : Meaning S F) where
  pub reckoned-append : (xs ys : List (Event S)) (l : Ledger S) → reckoned m l (xs ++ ys) ≡ reckoned m (reckoned m l xs) ys
  reckoned-append [] ys l = refl
  reckoned-append (e ∷ xs) ys l = reckoned-append xs ys (reckon m l e.call e.answer)

module _ {S F : Type 0} (m : Meaning S F) (v : Shown S) (b : ℕ) where
  follows_front : (xs ys : List (Event S)) (l : Ledger S) → Follows m v b l (xs ++ ys) → Follows m v b l xs
  follows_front [] ys l f = tt
  follows_front (e ∷ xs) ys l f = (f.0, follows_front xs ys (reckon m l e.call e.answer) f.1)

  follows_rest : (xs ys : List (Event S)) (l : Ledger S) → Follows m v b l (xs ++ ys) → Follows m v b (reckoned m l xs) ys
  follows_rest [] ys l f = f
  follows_rest (e ∷ xs) ys l f = follows_rest xs ys (reckon m l e.call e.answer) f.1

  -- a run goes on by one call
  pub follows_push : (xs : List (Event S)) (l : Ledger S) (e : Event S) → Follows m v b l xs → Says m v b (reckoned m l xs) e.call e.answer → Follows m v b l (xs ++ (e ∷ []))
  follows_push [] l e f says = (says, tt)
  follows_push (x ∷ xs) l e f says = (f.0, follows_push xs (reckon m l x.call x.answer) e f.1 says)

-- ---- what every run keeps

module _ {S F : Type 0} (m : Meaning S F) (law : Lawful m) (v : Shown S) (b : ℕ) where
  -- a finding that is accepted, or not
  sound_found : (s t : S) (n : ℕ) (is : Bool) → m.is_state t ≡ is → n ≤ b → m.is_state s ≡ true → Sound m b (cond is (ledger t n None) (ledger s n None))
  sound_found s t n true e w h = sound_idle m b t n w e
  sound_found s t n false e w h = sound_idle m b s n w h

  -- one call
  sound_next : (s : S) (n : ℕ) (out : Option Order) (c : Call S) (a : Answer) → Says m v b (ledger s n out) c a → Sound m b (ledger s n out) → Sound m b (reckon m (ledger s n out) c a)
  sound_next s n None (calls.Ask x y) (answers.Order o) says sound = sound_ordered m b s n o sound.within sound.state (due_when_advised m s (b - n) x y o sound.state (says.none refl))
  sound_next s n None (calls.Ask x y) answers.Reached says sound = sound
  sound_next s n None (calls.Ask x y) answers.NoWay says sound = sound
  sound_next s n None (calls.Ask x y) (answers.Accepted k) says sound = sound
  sound_next s n None (calls.Ask x y) (answers.Number k) says sound = sound
  sound_next s n None (calls.Ask x y) (answers.Refused f) says sound = sound
  sound_next s n (Some o) (calls.Ask x y) a says sound = sound
  sound_next s n None calls.Done a says sound = sound
  sound_next s n (Some o) calls.Done a says sound =
      let due = sound.order in
      sound_idle m b _ (n + 1) (omega arith) (ap m.is_state (moves_there m s (b - n) o due) ∙ law.step_state s o.action _ (leads_there m s (b - n) o due))
  sound_next s n None calls.Failed a says sound = sound
  sound_next s n (Some o) calls.Failed a says sound = let due = sound.order in sound_idle m b s (n + 1) (omega arith) sound.state
  sound_next s n None (calls.Find t) a says sound = sound_found s t n (m.is_state t) refl sound.within sound.state
  sound_next s n (Some o) (calls.Find t) a says sound = sound
  sound_next s n out (calls.Show p) a says sound = sound

  sound_run : (es : List (Event S)) (l : Ledger S) → Sound m b l → Follows m v b l es → Sound m b (reckoned m l es)
  sound_run [] l sound f = sound
  sound_run (e ∷ es) l sound f =
      sound_run es (reckon m l e.call e.answer) (sound_next l.stands l.reports l.out e.call e.answer f.0 sound) f.1

  -- One call on the way: where d more reports that say 'done' lead to the goal, and this call and the marks that follow are
  -- just those, the marks that follow lead there from where the plant then stands.
  toward_next : (s : S) (n : ℕ) (out : Option Order) (c : Call S) (a : Answer) (d : ℕ) (rest : List Mark) → Sound m b (ledger s n out) → Distance m s d → mark m (ledger s n out) c ++ rest ≡ replicate d done → (k : ℕ) × Distance m (reckon m (ledger s n out) c a).stands k × (rest ≡ replicate k done)
  toward_next s n None (calls.Ask x y) (answers.Order o) d rest sound far e = (d, far, e)
  toward_next s n None (calls.Ask x y) answers.Reached d rest sound far e = (d, far, e)
  toward_next s n None (calls.Ask x y) answers.NoWay d rest sound far e = (d, far, e)
  toward_next s n None (calls.Ask x y) (answers.Accepted i) d rest sound far e = (d, far, e)
  toward_next s n None (calls.Ask x y) (answers.Number i) d rest sound far e = (d, far, e)
  toward_next s n None (calls.Ask x y) (answers.Refused f) d rest sound far e = (d, far, e)
  toward_next s n (Some o) (calls.Ask x y) a d rest sound far e = (d, far, e)
  toward_next s n None calls.Done a d rest sound far e = (d, far, e)
  toward_next s n (Some o) calls.Done a d rest sound far e =
      let due = sound.order in
      let one = one_done d rest e in
      let less : o.steps - 1 ≡ one.0 = omega (arith, same_distance m s d o.steps far due.distance, one.1) in
      (one.0, subst (λ k. Distance m (result_unwrap_or (m.step s o.action) s) k) less (brought_nearer m s (b - n) o due), one.2)
  toward_next s n None calls.Failed a d rest sound far e = (d, far, e)
  toward_next s n (Some o) calls.Failed a d rest sound far e = absurd (cc (head_done failed d rest e))
  toward_next s n None (calls.Find t) a d rest sound far e = by_state (m.is_state t) e
    where
      by_state : (is : Bool) → cond is (found ∷ []) [] ++ rest ≡ replicate d done → (k : ℕ) × Distance m (cond is (ledger t n None) (ledger s n None)).stands k × (rest ≡ replicate k done)
      by_state true f = absurd (cc (head_done found d rest f))
      by_state false f = (d, far, f)
  toward_next s n (Some o) (calls.Find t) a d rest sound far e = (d, far, e)
  toward_next s n out (calls.Show p) a d rest sound far e = (d, far, e)

  -- from distance d, a run with d accepted reports that all say 'done' and with no finding accepted ends at the goal
  toward : (es : List (Event S)) (l : Ledger S) (d : ℕ) → Sound m b l → Follows m v b l es → Distance m l.stands d → marks m l es ≡ replicate d done → m.at_goal (reckoned m l es).stands ≡ true
  toward [] l d sound f far e = arrived m l.stands (subst (λ k. Distance m l.stands k) (none_left d e) far)
  toward (e ∷ es) l d sound f far said =
      let l' = reckon m l e.call e.answer in
      let next = toward_next l.stands l.reports l.out e.call e.answer d (marks m l' es) sound far said in
      toward es l' next.0 (sound_next l.stands l.reports l.out e.call e.answer f.0 sound) f.1 next.1 next.2

  -- an order that was answered is out, and due
  due_after : (s : S) (n : ℕ) (out : Option Order) (x y : ℕ) (o : Order) → Sound m b (ledger s n out) → AskSays m b (ledger s n out) x y (answers.Order o) → Due m (reckon m (ledger s n out) (calls.Ask x y) (answers.Order o)).stands (b - n) o
  due_after s n None x y o sound says = due_when_advised m s (b - n) x y o sound.state (says.none refl)
  due_after s n (Some p) x y o sound says = absurd (cc (says.out p refl))

  -- where an order is out, done moves the plant by its action
  done_moves : (s : S) (n : ℕ) (out : Option Order) (o : Order) (a : Answer) → out ≡ Some o → (reckon m (ledger s n out) calls.Done a).stands ≡ result_unwrap_or (m.step s o.action) s
  done_moves s n None o a e = absurd cc
  done_moves s n (Some p) o a e = let same : p ≡ o = cc in ap (λ q. result_unwrap_or (m.step s q.action) s) same

  -- ---- the promise, for a run that begins at a ledger where all is in order

  module _ (l : Ledger S) (first : Sound m b l) (es : List (Event S)) (f : Follows m v b l es) where
    module _ (before rest : List (Event S)) (splits : es ≡ before ++ rest) where
      whole : Follows m v b l (before ++ rest)
      whole = subst (λ xs. Follows m v b l xs) splits f

      sound_before : Sound m b (reckoned m l before)
      sound_before = sound_run before l first (follows_front m v b before rest l whole)

      after_before : Follows m v b (reckoned m l before) rest
      after_before = follows_rest m v b before rest l whole

    promised_asking : Asking m b l es
    promised_asking before after x y a splits k at none hx hy =
        let rest = ask_event x y a ∷ after in
        let says = subst (λ z. AskSays m b z x y a) (sym at) (after_before before rest splits).0 in
        let sound = subst (λ z. Sound m b z) (sym at) (sound_before before rest splits) in
        (says.none none).advice sound.state hx hy

    promised_arriving : Arriving m l es
    promised_arriving before during after x y o splits k at positive said =
        let ordering = ask_event x y (answers.Order o) in
        let rest = ordering ∷ (during ++ after) in
        let j = reckoned m l before in
        let j' = reckon m j (calls.Ask x y) (answers.Order o) in
        let sound = sound_before before rest splits in
        let follows = after_before before rest splits in
        let here : k ≡ j' = at ∙ reckoned-append m before (ordering ∷ []) l in
        let due = due_after j.stands j.reports j.out x y o sound follows.0 in
        let sound' = sound_next j.stands j.reports j.out (calls.Ask x y) (answers.Order o) follows.0 sound in
        let end = toward during j' o.steps sound' (follows_front m v b during after j' follows.1) due.distance (subst (λ z. marks m z during ≡ replicate o.steps done) here said) in
        ap (λ z. m.at_goal (reckoned m z during).stands) here ∙ end

    promised_standing : Standing m b l es
    promised_standing before after splits k at = subst (λ z. Sound m b z) (sym at) (sound_before before after splits)

    promised_nearing : Nearing m l es
    promised_nearing before after a splits k at o out =
        let sound = promised_standing before (done_event a ∷ after) splits k at in
        let due = subst (λ x. IfSome x (Due m k.stands (left b k))) out sound.order in
        let next = done_moves k.stands k.reports k.out o a out in
        (due.distance, subst (λ t. Distance m t (o.steps - 1)) (sym next) (brought_nearer m k.stands (left b k) o due))

  pub promised : (l : Ledger S) → Sound m b l → (es : List (Event S)) → Follows m v b l es → Promised m b l es
  promised l first es f =
      record {
        asking = promised_asking l first es f;
        arriving = promised_arriving l first es f;
        standing = promised_standing l first es f;
        nearing = promised_nearing l first es f;
      }
