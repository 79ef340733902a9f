-- What `last_stop` promises is proved in proofs/Exact.
use Rattle.command.proofs.statements.last_stop.Goals as goal
use Rattle.command.proofs.Exact.{last_stop}

pub returns : goal.returns
returns c = last_stop
