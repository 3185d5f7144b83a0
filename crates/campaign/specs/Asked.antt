-- What asking leaves on the trails and in their lent places.
use Rattle.std.specs.Prelude.{◌≡◌, ℕ, ◌+◌, List, [], ◌∷◌, Ok, Err, Result}
use Rattle.model.specs.Meaning.{Meaning}
use Rattle.planner.specs.Leads.{First}
use Rattle.trail.specs.Held.{held, KeptFrom}
use Rattle.trail.specs.declared.Trail.{Trail}
use Rattle.campaign.specs.declared.answer.Advice.{Advice}
use Rattle.campaign.specs.declared.answer.Advice.TheVariants as advice
use Rattle.campaign.specs.declared.fault.CampaignFault.{CampaignFault}

-- With an order the trails hold the best list, which begins with its action, and the states that it passes; with
-- 'reached' no action, and the state where the plant stands; with 'no way' nothing; after a refusal what they held.
abbrev pub TrailsHold : {S F : Type 0} → Meaning S F → S → Trail S → Trail ℕ → Result Advice CampaignFault → Trail S → Trail ℕ → Type 0
TrailsHold m s states actions (Ok (advice.Order o)) states' actions' =
    First m s o.steps (held actions') (held states') × ((rest : List ℕ) × (held actions' ≡ o.action ∷ rest))
TrailsHold m s states actions (Ok advice.Reached) states' actions' = (held actions' ≡ []) × (held states' ≡ s ∷ [])
TrailsHold m s states actions (Ok advice.NoWay) states' actions' = (held actions' ≡ []) × (held states' ≡ [])
TrailsHold m s states actions (Err f) states' actions' = (states' ≡ states) × (actions' ≡ actions)

-- Asking from s with r steps left. Of the lent places only the first r + 1 for states and the first r for actions may
-- have changed.
pub record Asked {S F : Type 0} (m : Meaning S F) (s : S) (r : ℕ) (states : Trail S) (actions : Trail ℕ) (a : Result Advice CampaignFault) (states' : Trail S) (actions' : Trail ℕ) : Type 0 where
  pub holds : TrailsHold m s states actions a states' actions'
  pub states_kept : KeptFrom (r + 1) states states'
  pub actions_kept : KeptFrom r actions actions'
