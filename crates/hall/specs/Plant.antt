-- The parts of a plant, when it is in a state that it may be in, when the rollover is done, and what is shown.
use Rattle.std.specs.Prelude.{Bool, true, false, not, ◌&&◌, ◌||◌, List, [], ◌∷◌}
use Rattle.hall.specs.Network.{gateway}
use Rattle.hall.specs.declared.network.Gateway.{Gateway}
use Rattle.hall.specs.declared.network.Gateway.TheVariants as gateways
use Rattle.hall.specs.declared.network.Press.{Press}
use Rattle.hall.specs.declared.network.Press.TheVariants.{One, Two, Three}
use Rattle.hall.specs.declared.plant.Chain.{Chain}
use Rattle.hall.specs.declared.plant.Chain.TheVariants.{Old, New}
use Rattle.hall.specs.declared.plant.Plant.{Plant}
use Rattle.hall.specs.declared.plant.Store.{Store}
use Rattle.hall.specs.declared.plant.Store.TheVariants.{OldRoot, BothRoots}
use Rattle.hall.specs.declared.plant.Window.{Window}
use Rattle.hall.specs.declared.plant.Window.TheVariants.{Closed, Open}

abbrev pub serves_new : Chain → Bool
serves_new Old = false
serves_new New = true

abbrev pub is_open : Window → Bool
is_open Closed = false
is_open Open = true

-- whether a press trusts a chain
abbrev pub trusts : Store → Chain → Bool
trusts store Old = true
trusts OldRoot New = false
trusts BothRoots New = true

abbrev pub store : Plant → Press → Store
store p One = p.press1
store p Two = p.press2
store p Three = p.press3

abbrev pub chain : Plant → Gateway → Chain
chain p gateways.One = p.gateway1
chain p gateways.Two = p.gateway2

abbrev pub with_store : Plant → Press → Store → Plant
with_store p One s = record p { press1 = s }
with_store p Two s = record p { press2 = s }
with_store p Three s = record p { press3 = s }

abbrev pub with_chain : Plant → Gateway → Chain → Plant
with_chain p gateways.One c = record p { gateway1 = c }
with_chain p gateways.Two c = record p { gateway2 = c }

-- a press is on the network where it trusts the chain that its gateway serves
abbrev pub on_network : Plant → Press → Bool
on_network p press = trusts (store p press) (chain p (gateway press))

-- the window is open only once gateway 1 serves the new chain
abbrev pub is_state : Plant → Bool
is_state p = not (is_open p.window) || serves_new p.gateway1

abbrev pub at_goal : Plant → Bool
at_goal p =
    serves_new p.gateway1
    && (serves_new p.gateway2
    && (not (is_open p.window)
    && (on_network p One
    && (on_network p Two
    && on_network p Three))))

-- what is shown, from place 1 on; there is no place 0
abbrev pub facts : Plant → List Bool
facts p =
    false
    ∷ trusts p.press1 New
    ∷ trusts p.press2 New
    ∷ trusts p.press3 New
    ∷ serves_new p.gateway1
    ∷ serves_new p.gateway2
    ∷ is_open p.window
    ∷ on_network p One
    ∷ on_network p Two
    ∷ on_network p Three
    ∷ []
