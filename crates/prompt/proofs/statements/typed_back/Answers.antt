use Rattle.prompt.proofs.Typed.{typed_back}
use Rattle.prompt.proofs.statements.typed_back.Goals as goal

pub returns : goal.returns
returns c = typed_back
