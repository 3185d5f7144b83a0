-- What replaying a list of calls answers and leaves.
use Rattle.std.specs.Prelude.{◌≡◌, ℕ, ◌<◌, ◌≤◌, List, length, Ok, Err, Result}
use Rattle.model.specs.Meaning.{Meaning}
use Rattle.model.specs.Shown.{Shown}
use Rattle.model.specs.declared.Model.{Ghosts}
use Rattle.trail.specs.Held.{held, room, KeptFrom}
use Rattle.trail.specs.declared.Trail.{Trail}
use Rattle.campaign.specs.Ledger.{opening, reckoned}
use Rattle.campaign.specs.Promise.{Promise}
use Rattle.campaign.specs.declared.Campaign.{Campaign}
use Rattle.campaign.specs.declared.call.Call.{Call}
use Rattle.campaign.specs.declared.call.Event.{Event}
use Rattle.replay.specs.Logged.{Logged}
use Rattle.replay.specs.Places.{PlacesKept}
use Rattle.replay.specs.declared.fault.ShortLog.{ShortLog}

-- The campaign that is handed back has come through the calls of the log, and keeps the promise of every run that follows the
-- opening: of the log, and of whatever calls come after it.
pub record Followed {M S F : Type 0} {G : Ghosts M S F} (m : Meaning S F) (b : ℕ) (model : M) (log : List (Event S)) (c : Campaign M S F G) : Type 0 where
  pub model_same : c.model ≡ model
  pub bound_same : c.bound ≡ b
  pub ledger : c.ledger ≡ reckoned m (opening m) log
  pub promise : Promise m b (opening m)

-- The log had room for the calls, and then holds them with their answers; its later places are as before.
pub record Replayed {M S F : Type 0} {G : Ghosts M S F} (m : Meaning S F) (v : Shown S) (b : ℕ) (model : M) (cs : List (Call S)) (ss ss' : List S) (xs xs' : List ℕ) (log log' : Trail (Event S)) (c : Campaign M S F G) : Type 0 where
  pub fits : length cs ≤ room log
  pub logged : Logged m v b (length ss) (length xs) cs (held log')
  pub campaign : Followed m b model (held log') c
  pub places : PlacesKept b (held log') ss ss' xs xs'
  pub log_kept : KeptFrom (length cs) log log'

-- The log had too few places: the model is handed back, and all is as it was.
pub record ReplayRefused {M S : Type 0} (model : M) (cs : List (Call S)) (ss ss' : List S) (xs xs' : List ℕ) (log log' : Trail (Event S)) (e : ShortLog M) : Type 0 where
  pub short : room log < length cs
  pub model_same : e.model ≡ model
  pub states_same : ss' ≡ ss
  pub actions_same : xs' ≡ xs
  pub log_same : log' ≡ log

abbrev pub ReplaySays : {M S F : Type 0} {G : Ghosts M S F} → Meaning S F → Shown S → ℕ → M → List (Call S) → List S → List S → List ℕ → List ℕ → Trail (Event S) → Trail (Event S) → Result (Campaign M S F G) (ShortLog M) → Type 0
ReplaySays m v b model cs ss ss' xs xs' log log' (Ok c) = Replayed m v b model cs ss ss' xs xs' log log' c
ReplaySays m v b model cs ss ss' xs xs' log log' (Err e) = ReplayRefused model cs ss ss' xs xs' log log' e
