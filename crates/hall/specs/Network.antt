-- The number of each press, and the gateway that it hangs on.
use Rattle.std.specs.Prelude.{ℕ}
use Rattle.hall.specs.declared.network.Gateway.{Gateway}
use Rattle.hall.specs.declared.network.Gateway.TheVariants as gateways
use Rattle.hall.specs.declared.network.Press.{Press}
use Rattle.hall.specs.declared.network.Press.TheVariants.{One, Two, Three}

abbrev pub gateway : Press → Gateway
gateway One = gateways.One
gateway Two = gateways.One
gateway Three = gateways.Two

abbrev pub press_number : Press → ℕ
press_number One = 1
press_number Two = 2
press_number Three = 3
