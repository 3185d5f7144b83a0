use Rattle.std.proofs.Common.{rules}
use Rattle.std.proofs.lemmas.Int.{wraps}
use Rattle.law_table.proofs.Counts.{given_more}
use Rattle.law_table.proofs.draft.Draft.start.Goals as goal

pub returns-clause-entered : goal.returns-clause-entered
returns-clause-entered c = (
  c.in_ok-literal.literal,
  search (rules, wraps),
  search rules,
  record {
    fluents = search rules;
    actions = search rules;
    rows = search rules;
    goal = search rules;
    given = c.insert.ensures.has;
    again = c.repeated-self.ensures;
  },
)

pub returns-clause-given : goal.returns-clause-given
returns-clause-given c ls given =
    let entered = returns-clause-entered c in
    (entered.0, entered.1, given_more c.args.self.now entered.0 _ ls entered.3 given)
