use Rattle.listing.proofs.Steps.{unlabelled}
use Rattle.listing.proofs.statements.unlabelled.Goals as goal

pub returns : goal.returns
returns c = unlabelled
