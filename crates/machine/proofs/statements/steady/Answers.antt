-- What `steady` promises is proved in proofs/Memory.
use Rattle.machine.proofs.statements.steady.Goals as goal
use Rattle.machine.proofs.Memory.{steady}

pub returns : goal.returns
returns c = steady
