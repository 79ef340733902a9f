-- What `past_same` promises is proved in proofs/MoreInput.
use Rattle.command.proofs.statements.past_same.Goals as goal
use Rattle.command.proofs.MoreInput.{past_same}

pub returns : goal.returns
returns c = past_same
