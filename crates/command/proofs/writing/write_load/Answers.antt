use Rattle.std.proofs.Common.{rules}
use Rattle.command.specs.Plain.{spelled}
use Rattle.command.proofs.writing.write_load.Goals as goal

pub returns : goal.returns
unfolding spelled
returns c = search rules
