use Rattle.listing.proofs.Steps.{told}
use Rattle.listing.proofs.statements.told.Goals as goal

pub returns : goal.returns
returns c = told
