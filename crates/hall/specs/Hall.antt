-- What the hall means as a model.
use Rattle.std.specs.Prelude.{false, ◌&&◌, if◌then◌else◌, Some, None, Err, Option, Result, slice_index_or}
use Rattle.model.specs.Meaning.{Meaning}
use Rattle.model.specs.Shown.{Shown}
use Rattle.hall.specs.Jobs.{job, after}
use Rattle.hall.specs.Plant.{is_state, at_goal, facts}
use Rattle.hall.specs.declared.fault.HallFault.{HallFault}
use Rattle.hall.specs.declared.fault.HallFault.TheVariants.{NoSuchJob, NotAState}
use Rattle.hall.specs.declared.job.Job.{Job}
use Rattle.hall.specs.declared.plant.Chain.TheVariants.{Old}
use Rattle.hall.specs.declared.plant.Plant.{Plant}
use Rattle.hall.specs.declared.plant.Store.TheVariants.{OldRoot}
use Rattle.hall.specs.declared.plant.Window.TheVariants.{Closed}

abbrev pub untouched : Plant
untouched = record { press1 = OldRoot; press2 = OldRoot; press3 = OldRoot; gateway1 = Old; gateway2 = Old; window = Closed }

abbrev pub step : Plant → Option Job → Result Plant HallFault
step p None = Err NoSuchJob
step p (Some j) = if is_state p then after p j else Err NotAState

abbrev pub hall_meaning : Meaning Plant HallFault
hall_meaning = record { actions = 9; start = untouched; is_state = is_state; at_goal = at_goal; step = λ p action. step p (job action) }

abbrev pub hall_shown : Shown Plant
hall_shown = record { places = 9; number = λ p place. if is_state p && slice_index_or (facts p) place false then 1 else 0 }
