use Rattle.std.proofs.Common.{rules}
use Rattle.law_table.proofs.Entries.{state_entered}
use Rattle.law_table.proofs.draft.Draft.state_law.Goals as goal

pub returns : goal.returns
returns c = search (rules, state_entered)
