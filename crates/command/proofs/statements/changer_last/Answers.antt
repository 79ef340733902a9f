-- What `changer_last` promises is proved in proofs/Exact.
use Rattle.command.proofs.statements.changer_last.Goals as goal
use Rattle.command.proofs.Exact.{changer_last}

pub returns : goal.returns
returns c = changer_last
