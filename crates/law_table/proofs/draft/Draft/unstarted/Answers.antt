use Rattle.std.proofs.Common.{Some, ◌+◌, ◌<◌, ◌≤◌, true, sym, refl, ◌∙◌, arith}
use Rattle.literals.specs.declared.literal.Literal.{Literal}
use Rattle.law_table.proofs.Counts.{unstarted_of}
use Rattle.law_table.proofs.draft.Draft.unstarted.Goals as goal

pub returns-then-not-starts_once-clause-first : goal.returns-then-not-starts_once-clause-first
returns-then-not-starts_once-clause-first c =
    let i = c.loop-place.place in
    let below : i < c.args.self.now.fluents = c.loop-place-test.true in
    let few : c.args.self.now.fluents ≤ 64 = c.args.self.now.few_fluents in
    let l : Literal = record { place = i; holds = true; within = omega (arith, below, few) } in
    let not_once = sym (c.starts_once.ensures l refl refl) ∙ c.if-not-starts_once.true in
    ((l, refl, refl, below, not_once), λ k holds less. c.loop-place.invariant k holds (let under : k.place + 1 < i + 1 = less in omega (arith, under)))

pub returns-then-not-starts_once-clause-of_given : goal.returns-then-not-starts_once-clause-of_given
returns-then-not-starts_once-clause-of_given c = λ ls given.
    unstarted_of c.args.self.now ls given (Some (c.loop-place.place + 1)) (returns-then-not-starts_once-clause-first c)
