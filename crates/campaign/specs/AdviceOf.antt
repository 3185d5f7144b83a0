-- The advice that a list of actions comes to. No public contract names this.
use Rattle.std.specs.Prelude.{ℕ, List, [], ◌∷◌}
use Rattle.campaign.specs.declared.answer.Advice.{Advice}
use Rattle.campaign.specs.declared.answer.Advice.TheVariants as advice

-- the first of the actions is ordered, with the steps; where there is none, the goal is reached
abbrev pub advice_of : List ℕ → ℕ → Advice
advice_of [] d = advice.Reached
advice_of (x ∷ xs) d = advice.Order (record { action = x; steps = d })
