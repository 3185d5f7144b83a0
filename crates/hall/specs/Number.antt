-- The number of each cause of the hall.
use Rattle.std.specs.Prelude.{ℕ}
use Rattle.hall.specs.declared.fault.HallFault.{HallFault}
use Rattle.hall.specs.declared.fault.HallFault.TheVariants.{NoSuchJob, NotAState, AlreadyDone, OffNetwork, WindowClosed, WindowOpen, TooEarly}

abbrev pub number : HallFault → ℕ
number NoSuchJob = 21
number NotAState = 22
number AlreadyDone = 101
number (OffNetwork press) = 102
number WindowClosed = 103
number WindowOpen = 104
number TooEarly = 105
