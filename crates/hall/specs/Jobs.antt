-- Which job each action is, when it can be done, and how the plant stands afterwards.
use Rattle.std.specs.Prelude.{ℕ, List, [], ◌∷◌, Some, None, Ok, Err, Option, Result, slice_index_or}
use Rattle.std.specs.Result.{result_and}
use Rattle.hall.specs.Network.{gateway}
use Rattle.hall.specs.Plant.{store, chain, with_store, with_chain}
use Rattle.hall.specs.declared.fault.HallFault.{HallFault}
use Rattle.hall.specs.declared.fault.HallFault.TheVariants.{AlreadyDone, OffNetwork, WindowClosed, WindowOpen, TooEarly}
use Rattle.hall.specs.declared.job.Job.{Job}
use Rattle.hall.specs.declared.job.Job.TheVariants.{Install, Switch, OpenWindow, CloseWindow, PutBack}
use Rattle.hall.specs.declared.network.Gateway.{Gateway}
use Rattle.hall.specs.declared.network.Gateway.TheVariants.{One, Two}
use Rattle.hall.specs.declared.network.Press.{Press}
use Rattle.hall.specs.declared.network.Press.TheVariants as presses
use Rattle.hall.specs.declared.plant.Chain.{Chain}
use Rattle.hall.specs.declared.plant.Chain.TheVariants.{Old, New}
use Rattle.hall.specs.declared.plant.Plant.{Plant}
use Rattle.hall.specs.declared.plant.Store.{Store}
use Rattle.hall.specs.declared.plant.Store.TheVariants.{OldRoot, BothRoots}
use Rattle.hall.specs.declared.plant.Window.{Window}
use Rattle.hall.specs.declared.plant.Window.TheVariants.{Closed, Open}

-- the jobs by the numbers of their actions; there is no action 0
abbrev pub jobs : List (Option Job)
jobs =
    None
    ∷ Some (Install presses.One)
    ∷ Some (Install presses.Two)
    ∷ Some (Install presses.Three)
    ∷ Some (Switch One)
    ∷ Some (Switch Two)
    ∷ Some OpenWindow
    ∷ Some CloseWindow
    ∷ Some (PutBack One)
    ∷ Some (PutBack Two)
    ∷ []

abbrev pub job : ℕ → Option Job
job action = slice_index_or jobs action None

abbrev pub can_install : Press → Store → Chain → Result (Unit {0}) HallFault
can_install press BothRoots chain = Err AlreadyDone
can_install press OldRoot Old = Ok tt
can_install press OldRoot New = Err (OffNetwork press)

-- gateway 2 is switched, and put back, only while the window is open
abbrev pub can_switch : Gateway → Chain → Window → Result (Unit {0}) HallFault
can_switch gateway New window = Err AlreadyDone
can_switch One Old window = Ok tt
can_switch Two Old Closed = Err WindowClosed
can_switch Two Old Open = Ok tt

abbrev pub can_open : Window → Chain → Result (Unit {0}) HallFault
can_open Open chain = Err AlreadyDone
can_open Closed Old = Err TooEarly
can_open Closed New = Ok tt

abbrev pub can_close : Window → Result (Unit {0}) HallFault
can_close Closed = Err AlreadyDone
can_close Open = Ok tt

abbrev pub can_put_back : Gateway → Chain → Window → Result (Unit {0}) HallFault
can_put_back gateway Old window = Err AlreadyDone
can_put_back One New Open = Err WindowOpen
can_put_back One New Closed = Ok tt
can_put_back Two New Closed = Err WindowClosed
can_put_back Two New Open = Ok tt

-- whether a job can be done, or why not
abbrev pub can_do : Plant → Job → Result (Unit {0}) HallFault
can_do p (Install press) = can_install press (store p press) (chain p (gateway press))
can_do p (Switch gateway) = can_switch gateway (chain p gateway) p.window
can_do p OpenWindow = can_open p.window p.gateway1
can_do p CloseWindow = can_close p.window
can_do p (PutBack gateway) = can_put_back gateway (chain p gateway) p.window

-- the plant once a job is done: each changes one thing
abbrev pub done : Plant → Job → Plant
done p (Install press) = with_store p press BothRoots
done p (Switch gateway) = with_chain p gateway New
done p OpenWindow = record p { window = Open }
done p CloseWindow = record p { window = Closed }
done p (PutBack gateway) = with_chain p gateway Old

abbrev pub after : Plant → Job → Result Plant HallFault
after p j = result_and (can_do p j) (Ok (done p j))
