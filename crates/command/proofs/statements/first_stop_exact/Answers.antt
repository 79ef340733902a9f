-- What `first_stop_exact` promises is proved in proofs/Exact.
use Rattle.command.proofs.statements.first_stop_exact.Goals as goal
use Rattle.command.proofs.Exact.{first_stop_exact}

pub returns : goal.returns
returns c = first_stop_exact
