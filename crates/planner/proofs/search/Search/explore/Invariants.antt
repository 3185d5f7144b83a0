use Rattle.std.proofs.Common.{◌+◌}
use Rattle.planner.specs.Path.{taken, passed, KeptPast}
use Rattle.planner.specs.Search.{Progress, turns}
use Rattle.planner.proofs.search.Search.explore.Given as goal

abbrev pub invariant-loop-action : goal.invariant-loop-action
invariant-loop-action g l =
    Progress (g.M.Model.meaning l.self.model.now) l.self.state l.self.depth (taken l.path) (passed l.path) l.next
    × KeptPast (l.self.depth + 1) l.self.depth l.initial.path l.path

abbrev pub decreases-loop-action : goal.decreases-loop-action
decreases-loop-action g l = turns (g.M.Model.meaning l.self.model.now).actions l.self.depth (taken l.path) l.next
