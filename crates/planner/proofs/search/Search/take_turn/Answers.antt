use Rattle.std.proofs.Common.{◌≡◌, ◌<◌, sym, ap, ◌∙◌, arith, ltb-false, ltb-true, length}
use Rattle.planner.specs.Path.{taken}
use Rattle.planner.proofs.Turning.{path_few, can_grow, kept_grown, found, whole_back, level_back, gone_on}
use Rattle.planner.proofs.search.Search.take_turn.Goals as goal

pub returns-then-at_goal-clause-turned : goal.returns-then-at_goal-clause-turned
returns-then-at_goal-clause-turned g c =
    let same = c.len.ensures.same ∙ c.end-at.ensures.same in
    let whole : length (taken c.args.path.now) ≡ c.args.self.now.depth = omega (arith, c.len.ensures.value, ap (λ x. length (taken x)) c.end-at.ensures.same) in
    found (g.met.M.Model.lawful _) same c.requires.progress c.end-at.ensures.value whole (sym c.if-at_goal.ensures)

pub back-requires : goal.back-requires
back-requires g c = path_few (g.met.M.Model.lawful _) (c.len.ensures.same ∙ c.end-at.ensures.same) c.requires.progress

pub returns-then-len-from-clause-turned : goal.returns-then-len-from-clause-turned
returns-then-len-from-clause-turned g c =
    let same = c.len.ensures.same ∙ c.end-at.ensures.same in
    let whole : length (taken c.args.path.now) ≡ c.args.self.now.depth = omega (arith, c.len.ensures.value, ap (λ x. length (taken x)) c.end-at.ensures.same) in
    whole_back (g.met.M.Model.lawful _) same c.requires.progress c.end-at.ensures.value whole (sym c.if-at_goal.ensures) _ c.back.new.path c.back.ensures.backs

pub back-requires-then-all_tried : goal.back-requires-then-all_tried
back-requires-then-all_tried g c = path_few (g.met.M.Model.lawful _) (c.len.ensures.same ∙ c.end-at.ensures.same) c.requires.progress

pub returns-then-all_tried-clause-turned : goal.returns-then-all_tried-clause-turned
returns-then-all_tried-clause-turned g c =
    let same = c.len.ensures.same ∙ c.end-at.ensures.same in
    let shorter : length (taken c.args.path.now) < c.args.self.now.depth = omega (arith, c.len.ensures.value, c.requires.progress.short, ap (λ x. length (taken x)) c.end-at.ensures.same) in
    level_back (g.met.M.Model.lawful _) same c.requires.progress c.end-at.ensures.value shorter (ltb-true _ _ (sym c.if-all_tried.ensures)) _ c.back-then-all_tried.new.path c.back-then-all_tried.ensures.backs

pub forward-requires-clause-room : goal.forward-requires-clause-room
forward-requires-clause-room g c =
    let same = c.len.ensures.same ∙ c.end-at.ensures.same in
    let shorter : length (taken c.args.path.now) < c.args.self.now.depth = omega (arith, c.len.ensures.value, c.requires.progress.short, ap (λ x. length (taken x)) c.end-at.ensures.same) in
    can_grow (g.met.M.Model.lawful _) same c.requires.progress c.requires.room shorter

pub returns-clause-turned : goal.returns-clause-turned
returns-clause-turned g c =
    let same = c.len.ensures.same ∙ c.end-at.ensures.same in
    let shorter : length (taken c.args.path.now) < c.args.self.now.depth = omega (arith, c.len.ensures.value, c.requires.progress.short, ap (λ x. length (taken x)) c.end-at.ensures.same) in
    gone_on (g.met.M.Model.lawful _) same c.requires.progress c.end-at.ensures.value shorter (ltb-false _ _ (sym c.if-all_tried.ensures)) _ c.forward.new.path c.forward.ensures.tries

pub returns-clause-kept : goal.returns-clause-kept
returns-clause-kept g c =
    let same = c.len.ensures.same ∙ c.end-at.ensures.same in
    let shorter : length (taken c.args.path.now) < c.args.self.now.depth = omega (arith, c.len.ensures.value, c.requires.progress.short, ap (λ x. length (taken x)) c.end-at.ensures.same) in
    kept_grown (g.met.M.Model.lawful _) same c.requires.progress shorter _ c.forward.ensures.kept
