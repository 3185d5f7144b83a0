use Rattle.std.proofs.Common.{arith}
use Rattle.trail.proofs.Effects.{kept_same, kept_trans, kept_cleared}
use Rattle.replay.proofs.Logs.{replayed_none, replayed_more}
use Rattle.replay.proofs.replay.Goals as goal

pub loop-call-init : goal.loop-call-init
loop-call-init g c =
    let opened = c.open-campaign.ensures in
    let kept = kept_trans (kept_same 0 c.room.ensures.same) (kept_cleared 0 c.room.new.self c.clear.new.self c.clear.ensures) in
    replayed_none g.M.Model.meaning g.M.ShownModel.shown _ _ _ _ _ _ _ opened.model opened.bound opened.ledger opened.promise c.clear.ensures.holds kept

pub loop-call-preserved : goal.loop-call-preserved
loop-call-preserved g c =
    let so_far = c.loop-call in
    replayed_more g.M.Model.meaning g.M.ShownModel.shown _ _ _ _ c.args.log.now c.args.calls.now _ _ c.loop-call-test.true c.call-item.is (omega (arith, c.room.ensures.value, c.if-room-calls.false)) _ _ _ _ _ _ _ _ _ so_far.invariant _ _ c.limit-carried.ensures so_far.auto.states so_far.auto.actions c.carry_out-answer.ensures c.push.ensures
