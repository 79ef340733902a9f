-- What `holding_is_whole` promises is proved in proofs/Promises.
use Rattle.machine.proofs.statements.holding_is_whole.Goals as goal
use Rattle.machine.proofs.Promises.{holding_whole}

pub returns : goal.returns
returns c = holding_whole
