-- What `last_stop_exact` promises is proved in proofs/Exact.
use Rattle.command.proofs.statements.last_stop_exact.Goals as goal
use Rattle.command.proofs.Exact.{last_stop_exact}

pub returns : goal.returns
returns c = last_stop_exact
