use Rattle.std.proofs.Common.{take}
use Rattle.planner.specs.Planned.{bound_read}
use Rattle.replay.specs.Replayed.{Replayed}
use Rattle.replay.proofs.replay.Given as goal

-- what the contract says of all the calls, of those carried out so far
abbrev pub invariant-loop-call : goal.invariant-loop-call
invariant-loop-call g l =
    let model = l.fn.model in
    Replayed (g.M.Model.meaning model) (g.M.ShownModel.shown model) (bound_read l.fn.bound) model (take l.call-index l.calls) l.fn.states l.states l.fn.actions l.actions l.fn.log l.log l.campaign
