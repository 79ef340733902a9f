use Rattle.std.proofs.Common.{rules}
use Rattle.listing.specs.Lines.{line_text}
use Rattle.listing.proofs.lines.LineDisplay.fmt.Goals as goal

pub returns-clause-writes : goal.returns-clause-writes
unfolding line_text
returns-clause-writes g c = search rules
