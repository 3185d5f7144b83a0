-- The number of each cause of a counter.
use Rattle.std.specs.Prelude.{ℕ}
use Rattle.counter.specs.declared.CounterFault.{CounterFault}
use Rattle.counter.specs.declared.CounterFault.TheVariants.{NoAction, NotAState, Beyond}

abbrev pub number : CounterFault → ℕ
number NoAction = 21
number NotAState = 22
number Beyond = 101
