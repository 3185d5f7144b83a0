use Rattle.std.proofs.Common.{take}
use Rattle.planner.specs.Leads.{Reaches}
use Rattle.planner.proofs.checking.walk.Given as goal

abbrev pub invariant-loop-i : goal.invariant-loop-i
invariant-loop-i g l = Reaches (g.M.Model.meaning l.model) l.initial.at (take l.i l.actions) l.at
