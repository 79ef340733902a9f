-- What `changer_exact` promises is proved in proofs/Exact.
use Rattle.command.proofs.statements.changer_exact.Goals as goal
use Rattle.command.proofs.Exact.{changer_exact}

pub returns : goal.returns
returns c = changer_exact
