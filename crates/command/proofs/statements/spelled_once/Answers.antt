use Rattle.command.proofs.Spellings.{spelled_once}
use Rattle.command.proofs.statements.spelled_once.Goals as goal

pub returns : goal.returns
returns c = spelled_once
