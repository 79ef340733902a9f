-- What `small_numbers` promises is proved in proofs/SmallNumbers.
use Rattle.command.proofs.statements.small_numbers.Goals as goal
use Rattle.command.proofs.SmallNumbers.{small_numbers}

pub returns : goal.returns
returns c = small_numbers
