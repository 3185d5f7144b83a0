use Rattle.std.proofs.Common.{rules, sym, subst}
use Rattle.std.proofs.lemmas.Int.{wraps}
use Rattle.law_table.proofs.Numbers.{all_more}
use Rattle.law_table.specs.Limits.{AllOf}
use Rattle.law_table.proofs.draft.Draft.goal.Goals as goal

pub invariant_of-self-clause-goal_fits : goal.invariant_of-self-clause-goal_fits
invariant_of-self-clause-goal_fits c =
    let d = c.args.self.now in
    let l = c.in_ok-literal.literal in
    subst (AllOf d.fluents) (sym c.push.ensures.items) (all_more d.fluents d.goal.items l d.goal_fits (search rules))

pub returns-then-is_full : goal.returns-then-is_full
returns-then-is_full c = ((c.in_ok-literal.literal, search (rules, wraps), search rules), search rules, search rules)

pub returns : goal.returns
returns c = (
  c.in_ok-literal.literal,
  search (rules, wraps),
  search rules,
  search rules,
  record {
    fluents = search rules;
    actions = search rules;
    rows = search rules;
    goal = c.push.ensures.items;
    given = search rules;
    again = search rules;
  },
)
