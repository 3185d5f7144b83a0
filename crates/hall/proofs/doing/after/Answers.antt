use Rattle.hall.proofs.Keeping.{keeps_rules}
use Rattle.hall.proofs.doing.after.Goals as goal

pub returns-clause-rules : goal.returns-clause-rules
returns-clause-rules c = rw c.done.ensures (keeps_rules c.args.plant c.args.job c.in_ok-can_do.ensures)
