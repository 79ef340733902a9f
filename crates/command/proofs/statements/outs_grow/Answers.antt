-- What `outs_grow` promises is proved in proofs/OutsGrow.
use Rattle.command.proofs.statements.outs_grow.Goals as goal
use Rattle.command.proofs.OutsGrow.{outs_grow}

pub returns : goal.returns
returns c = outs_grow
