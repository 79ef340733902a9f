-- What `small_states` promises is proved in proofs/SmallStates.
use Rattle.command.proofs.statements.small_states.Goals as goal
use Rattle.command.proofs.SmallStates.{small_states}

pub returns : goal.returns
returns c = small_states
