-- What `worked_box` promises is proved in proofs/Box.
use Rattle.command.proofs.statements.worked_box.Goals as goal
use Rattle.command.proofs.Box.{worked_box}

pub returns : goal.returns
returns c = worked_box
