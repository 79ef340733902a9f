use Rattle.prompt.proofs.Typed.{spelled_out}
use Rattle.prompt.proofs.statements.spelled_out.Goals as goal

pub returns : goal.returns
returns c = spelled_out
