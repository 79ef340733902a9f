use Rattle.listing.proofs.Again.{named_back}
use Rattle.listing.proofs.statements.named_back.Goals as goal

pub returns : goal.returns
returns c = named_back
