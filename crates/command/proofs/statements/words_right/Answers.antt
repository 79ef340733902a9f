-- What `words_right` promises is proved in proofs/WordsHold.
use Rattle.command.proofs.statements.words_right.Goals as goal
use Rattle.command.proofs.WordsHold.{words_right}

pub returns : goal.returns
returns c = words_right
