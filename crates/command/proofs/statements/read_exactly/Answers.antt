use Rattle.command.proofs.Spellings.{read_exactly}
use Rattle.command.proofs.statements.read_exactly.Goals as goal

pub returns : goal.returns
returns c = read_exactly
