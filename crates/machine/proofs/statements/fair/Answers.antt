-- What `fair` promises is proved in proofs/Fair.
use Rattle.machine.proofs.statements.fair.Goals as goal
use Rattle.machine.proofs.Fair.{fair}

pub returns : goal.returns
returns c = fair
