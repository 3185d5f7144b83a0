use Rattle.std.proofs.Common.{suc}
use Rattle.literals.specs.Set.{has}
use Rattle.laws.specs.Code.{rows_of}
use Rattle.laws.specs.Rows.{closure}
use Rattle.laws.proofs.Closures.{closure_is, true_not_false}
use Rattle.laws.proofs.Effects.{same_closure}
use Rattle.laws.proofs.Floors.{next_is, last, more}
use Rattle.laws.proofs.rows.Rows.last_floor.Goals as goal

pub floors-init : goal.floors-init
floors-init c =
    let rows = rows_of c.args.self.now.literals.now c.args.self.now.laws.now in
    let E = has c.args.effects in
    (0, same_closure rows E (has c.close-floor.result) (closure rows E) c.close-floor.ensures.closure (closure_is rows E))

pub floors-smaller : goal.floors-smaller
floors-smaller c =
    let inv = c.floors.invariant in
    more (rows_of c.args.self.now.literals.now c.args.self.now.laws.now) (has c.args.effects) (has c.args.s) (has c.floors.floor) (has c.against-ceiling.result) (has c.against-next.result) inv.0 inv.1 c.against-ceiling.ensures c.against-next.ensures (λ f. true_not_false (c.includes.ensures.1 f) c.if-includes.false)

pub floors-preserved : goal.floors-preserved
floors-preserved c =
    let inv = c.floors.invariant in
    (suc inv.0, next_is (rows_of c.args.self.now.literals.now c.args.self.now.laws.now) (has c.args.effects) (has c.args.s) (has c.floors.floor) (has c.against-ceiling.result) (has c.against-next.result) inv.0 inv.1 c.against-ceiling.ensures c.against-next.ensures)

pub returns : goal.returns
returns c =
    let inv = c.floors.invariant in
    last (rows_of c.args.self.now.literals.now c.args.self.now.laws.now) (has c.args.effects) (has c.args.s) (has c.floors.floor) (has c.against-ceiling.result) (has c.against-next.result) inv.0 inv.1 c.against-ceiling.ensures c.against-next.ensures (c.includes.ensures.0 c.if-includes.true)
