use Rattle.std.proofs.Common.{◌+◌}
use Rattle.planner.specs.Path.{KeptPast}
use Rattle.planner.proofs.Plans.{NoneBelow}
use Rattle.planner.proofs.planning.deepen.Given as goal

abbrev pub invariant-loop-depth : goal.invariant-loop-depth
invariant-loop-depth g l =
    NoneBelow (g.M.Model.meaning l.model) l.state l.depth
    × KeptPast (l.most + 1) l.most l.initial.path l.path
