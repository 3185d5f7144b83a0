-- What the operations do to a trail, for whoever builds on one. Assumes nothing.
use Rattle.std.proofs.Common.{◌≡◌, ℕ, ◌-◌, ◌<◌, ◌≤◌, List, [], ◌∷◌, ◌++◌, length, take, drop, Some, None, Ok, Err, Option, Result, sym, refl, ap, ◌∙◌, subst, arith, length-set}
use Rattle.std.proofs.lemmas.List.{drop-drop, drop-set-lt, length_push, same_from_push}
use Rattle.trail.proofs.Trails.{take_used}
use Rattle.trail.specs.Ends.{Added, Pushed, Taken, Popped, Cleared}
use Rattle.trail.specs.Held.{held, room, KeptFrom}
use Rattle.trail.specs.declared.Trail.{Trail}
use Rattle.trail.specs.declared.fault.TrailFault.{TrailFault}
use Rattle.trail.specs.declared.fault.TrailFault.TheVariants.{Full}

module _ {T : Type 0} where
  pub kept_refl : (n : ℕ) (t : Trail T) → KeptFrom n t t
  kept_refl n t = record { lender = refl; room_same = refl; later = refl }

  pub kept_same : (n : ℕ) {t u : Trail T} → u ≡ t → KeptFrom n t u
  kept_same n {t} {u} e = subst (λ v. KeptFrom n t v) (sym e) (kept_refl n t)

  pub kept_trans : {n : ℕ} {t u v : Trail T} → KeptFrom n t u → KeptFrom n u v → KeptFrom n t v
  kept_trans p q = record { lender = q.lender ∙ p.lender; room_same = q.room_same ∙ p.room_same; later = q.later ∙ p.later }

  -- what keeps more places keeps fewer
  pub kept_fewer : (j n : ℕ) {t u : Trail T} → j ≤ n → KeptFrom j t u → KeptFrom n t u
  kept_fewer j n {t} {u} h p =
      let at : (xs : List T) → drop n xs ≡ drop (n - j) (drop j xs) = λ xs. ap (λ i. drop i xs) (omega arith) ∙ sym (drop-drop (n - j) j xs) in
      record { lender = p.lender; room_same = p.room_same; later = at _ ∙ ap (drop (n - j)) p.later ∙ sym (at _) }

  pub kept_added : (n : ℕ) (t u : Trail T) (x : T) → Added t x u → length (held t) < n → KeptFrom n t u
  kept_added n t u x a h =
      record {
        lender = a.lender;
        room_same = ap length a.places ∙ length-set t.places.now (length (held t)) x;
        later = ap (drop n) a.places ∙ drop-set-lt n t.places.now (length (held t)) x h;
      }

  kept_places : (n : ℕ) (t u : Trail T) → u.places ≡ t.places → KeptFrom n t u
  kept_places n t u e = record { lender = ap (λ x. x.ghost_name) e; room_same = ap (λ p. length p.now) e; later = ap (λ p. drop n p.now) e }

  pub kept_cleared : (n : ℕ) (t u : Trail T) → Cleared t u → KeptFrom n t u
  kept_cleared n t u h = kept_places n t u h.places

  -- where there is room, an element is added
  pub pushed_added : (t u : Trail T) (x : T) (r : Result ℕ TrailFault) → Pushed t x r u → length (held t) < room t → Added t x u
  pushed_added t u x (Ok n) h fits = h.1
  pushed_added t u x (Err Full) h fits = absurd (omega (arith, h.0))

  -- what a trail holds are the first of its places, as many as it holds elements
  pub held_front : (t : Trail T) (n : ℕ) → length (held t) ≡ n → held t ≡ take n t.places.now
  held_front t n e = sym (take_used t.places.now t.len) ∙ ap (λ k. take k t.places.now) e
