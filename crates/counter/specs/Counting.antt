-- What a counter means as a model.
use Rattle.std.specs.Prelude.{ℕ, ◌+◌, Bool, not, ◌&&◌, ◌||◌, if◌then◌else◌, Ok, Err, Result, ◌==◌, nat_le, nat_lt}
use Rattle.model.specs.Meaning.{Meaning}
use Rattle.model.specs.Shown.{Shown}
use Rattle.counter.specs.declared.CounterFault.{CounterFault}
use Rattle.counter.specs.declared.CounterFault.TheVariants.{NoAction, NotAState, Beyond}

abbrev pub is_state : ℕ → Bool
is_state s = nat_le s 999

abbrev pub step : ℕ → ℕ → ℕ → Result ℕ CounterFault
step most s a =
    if a == 0 || nat_lt most a then Err NoAction
    else if not (is_state s) then Err NotAState
    else if not (is_state (s + a)) then Err Beyond
    else Ok (s + a)

abbrev pub counting : ℕ → ℕ → Meaning ℕ CounterFault
counting most goal = record {
  actions = most;
  start = 0;
  is_state = is_state;
  at_goal = λ s. is_state s && s == goal;
  step = step most;
}

abbrev pub count_shown : Shown ℕ
count_shown = record { places = 1; number = λ s place. if is_state s && place == 1 then s else 0 }
