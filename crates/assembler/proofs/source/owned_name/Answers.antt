use Rattle.std.proofs.Common.{rules}
use Rattle.assembler.proofs.Runs.{name_shown}
use Rattle.assembler.proofs.source.owned_name.Goals as goal

pub returns : goal.returns
returns c = let e = name_shown c.args.name.now c.requires in search rules
