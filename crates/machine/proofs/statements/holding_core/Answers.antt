-- What `holding_core` promises is proved in proofs/Whole.
use Rattle.machine.proofs.statements.holding_core.Goals as goal
use Rattle.machine.proofs.Whole.{holding_core}

pub returns : goal.returns
returns c = holding_core
