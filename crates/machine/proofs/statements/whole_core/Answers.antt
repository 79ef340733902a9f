-- What `whole_core` promises is proved in proofs/Whole.
use Rattle.machine.proofs.statements.whole_core.Goals as goal
use Rattle.machine.proofs.Whole.{whole_core}

pub returns : goal.returns
returns c = whole_core
