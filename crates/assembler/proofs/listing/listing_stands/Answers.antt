use Rattle.assembler.proofs.Returned.{listed_back, listed_once}
use Rattle.assembler.proofs.listing.listing_stands.Goals as goal

pub returns : goal.returns
returns c = record { back = listed_back; once = listed_once }
