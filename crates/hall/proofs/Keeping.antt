-- A job that can be done keeps the rules of the hall. Assumes nothing.
use Rattle.std.proofs.Common.{◌≡◌, Ok, rules}
use Rattle.hall.specs.Jobs.{can_do, done}
use Rattle.hall.specs.Rules.{Rules}
use Rattle.hall.specs.declared.job.Job.{Job}
use Rattle.hall.specs.declared.job.Job.TheVariants.{Install, Switch, OpenWindow, CloseWindow, PutBack}
use Rattle.hall.specs.declared.plant.Plant.{Plant}

pub keeps_rules : (p : Plant) (j : Job) → Ok tt ≡ can_do p j → Rules p (done p j)
keeps_rules p (Install press) h = search rules
keeps_rules p (Switch gateway) h = search rules
keeps_rules p OpenWindow h = search rules
keeps_rules p CloseWindow h = search rules
keeps_rules p (PutBack gateway) h = search rules
