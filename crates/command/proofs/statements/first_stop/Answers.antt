-- What `first_stop` promises is proved in proofs/Exact.
use Rattle.command.proofs.statements.first_stop.Goals as goal
use Rattle.command.proofs.Exact.{first_stop}

pub returns : goal.returns
returns c = first_stop
