-- The rules of the hall, which every job keeps: what they say does not depend on how the jobs are written.
use Rattle.std.specs.Prelude.{◌≡◌, ℕ, ◌+◌, Bool, true, false}
use Rattle.hall.specs.Plant.{trusts, serves_new, is_open, store, on_network}
use Rattle.hall.specs.declared.network.Press.{Press}
use Rattle.hall.specs.declared.plant.Chain.TheVariants.{New}
use Rattle.hall.specs.declared.plant.Plant.{Plant}
use Rattle.hall.specs.declared.plant.Store.TheVariants.{BothRoots}

-- 1 where the two differ
abbrev pub differ : Bool → Bool → ℕ
differ false false = 0
differ false true = 1
differ true false = 1
differ true true = 0

-- in how many parts two plants differ: each part has two values, which one test tells apart
abbrev pub differences : Plant → Plant → ℕ
differences p q =
    differ (trusts p.press1 New) (trusts q.press1 New)
    + differ (trusts p.press2 New) (trusts q.press2 New)
    + differ (trusts p.press3 New) (trusts q.press3 New)
    + differ (serves_new p.gateway1) (serves_new q.gateway1)
    + differ (serves_new p.gateway2) (serves_new q.gateway2)
    + differ (is_open p.window) (is_open q.window)

pub record Rules (before after : Plant) : Type 0 where
  -- a job changes one thing
  pub one_change : differences before after ≡ 1
  -- nothing is installed on a press that is off the network
  pub off_network : (press : Press) → on_network before press ≡ false → store after press ≡ store before press
  -- an installed root stays
  pub root_stays : (press : Press) → store before press ≡ BothRoots → store after press ≡ BothRoots
  -- gateway 2 is switched only while the window is open
  pub in_window : is_open before.window ≡ false → after.gateway2 ≡ before.gateway2
