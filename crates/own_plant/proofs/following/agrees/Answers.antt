use Rattle.std.proofs.Common.{◌≡◌, ◌∙◌, sym, length, rules, tests}
use Rattle.std.proofs.lemmas.Iterator.{YieldsList-from_map, YieldsList-from_slice, YieldsList-from_zip, same_from_all}
use Rattle.std.proofs.lemmas.Iterator.Consumers.{YieldsList-at}
use Rattle.std.proofs.lemmas.List.{length-map}
use Rattle.own_plant.specs.Agreeing.{answers}
use Rattle.own_plant.proofs.following.agrees.Goals as goal

pub returns-then-log-other : goal.returns-then-log-other
returns-then-log-other c =
    let log = c.args.log.now in
    let other = c.args.other.now in
    let long : length (answers log) ≡ length (answers other) = length-map log (λ e. e.answer) ∙ c.if-log-other.true ∙ sym (length-map other (λ e. e.answer)) in
    same_from_all c.all.new.self _ _ (answers log) (answers other) c.all.ensures.ran
    (YieldsList-from_zip
    (YieldsList-at c.zip.ensures.first (YieldsList-from_map _ (λ e. e.answer) (YieldsList-at c.map-said.ensures.source (YieldsList-from_slice log cc)) c.map-said.ensures.closure (λ x r q k. search rules)))
    (YieldsList-at c.zip.ensures.second (YieldsList-from_map _ (λ e. e.answer) (YieldsList-at c.map-others.ensures.source (YieldsList-from_slice other cc)) c.map-others.ensures.closure (λ x r q k. search rules))))
    long (λ x q k. search (rules, tests)) (λ x q k. search (rules, tests))
