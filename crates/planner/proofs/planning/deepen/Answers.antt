use Rattle.std.proofs.Common.{◌+◌, Ok, arith}
use Rattle.planner.specs.Path.{taken, passed, KeptPast}
use Rattle.planner.specs.declared.planning.PlanAnswer.TheVariants.{Steps}
use Rattle.planner.proofs.Paths.{kept_fewer, kept_trans}
use Rattle.planner.proofs.Plans.{best, none_deeper, planned}
use Rattle.planner.proofs.planning.deepen.Goals as goal

pub returns-then-explore-clause-planned : goal.returns-then-explore-clause-planned
returns-then-explore-clause-planned g c =
    let m = g.M.Model.meaning c.args.model.now in
    let found = c.if-explore.ensures in
    let path = c.explore.new.path in
    let kept : KeptPast (c.args.most + 1) c.args.most c.args.path.now path = kept_trans c.loop-depth.invariant.1 (kept_fewer (omega arith) c.loop-depth-test.true found.kept) in
    planned m c.args.state c.args.most _ _ (Ok (Steps c.loop-depth.depth)) path.states.now path.actions.now
    (c.requires, best m c.args.state c.args.most c.loop-depth.depth (taken path) (passed path) c.loop-depth-test.true c.loop-depth.invariant.0 found.explored)
    kept.states kept.actions

pub returns-then-explore-clause-kept : goal.returns-then-explore-clause-kept
returns-then-explore-clause-kept g c = kept_trans c.loop-depth.invariant.1 (kept_fewer (omega arith) c.loop-depth-test.true c.if-explore.ensures.kept)

pub loop-depth-preserved : goal.loop-depth-preserved
loop-depth-preserved g c = (
  none_deeper (g.M.Model.meaning c.args.model.now) c.args.state c.loop-depth.depth c.loop-depth.invariant.0 c.if-explore.ensures.explored,
  kept_trans c.loop-depth.invariant.1 (kept_fewer (omega arith) c.loop-depth-test.true c.if-explore.ensures.kept),
)
