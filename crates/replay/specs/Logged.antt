-- What a log says: the calls as they were carried out, and their answers.
use Rattle.std.specs.Prelude.{◌≡◌, ℕ, min, List, map}
use Rattle.model.specs.Meaning.{Meaning}
use Rattle.model.specs.Shown.{Shown}
use Rattle.campaign.specs.Ledger.{opening}
use Rattle.campaign.specs.Promise.{Follows, Promised}
use Rattle.campaign.specs.declared.call.Call.{Call}
use Rattle.campaign.specs.declared.call.Call.TheVariants.{Ask, Done, Failed, Find, Show}
use Rattle.campaign.specs.declared.call.Event.{Event}

-- the call as it is carried out over n lent places for states and k for actions: asking may use no more than there are
abbrev pub limited : {S : Type 0} → ℕ → ℕ → Call S → Call S
limited n k (Ask x y) = Ask (min x n) (min y k)
limited n k Done = Done
limited n k Failed = Failed
limited n k (Find s) = Find s
limited n k (Show p) = Show p

-- The log of the calls cs, over n lent places for states and k for actions.
pub record Logged {S F : Type 0} (m : Meaning S F) (v : Shown S) (b n k : ℕ) (cs : List (Call S)) (log : List (Event S)) : Type 0 where
  -- every call was carried out, in its turn
  pub calls : map (λ e. e.call) log ≡ map (limited n k) cs
  -- each answer is what the contract of its call says
  pub follows : Follows m v b (opening m) log
  -- 'no way' is true when said, and every order done brings the goal one nearer
  pub promised : Promised m b (opening m) log
