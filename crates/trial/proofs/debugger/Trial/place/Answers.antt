use Rattle.std.proofs.Common.{sym, ◌∙◌}
use Rattle.trial.proofs.Moves.{moment_here}
use Rattle.trial.proofs.debugger.Trial.place.Goals as goal

pub returns : goal.returns
returns c w k = c.from.ensures ∙ sym (moment_here _ _ _ _ _ _ _ w k c.index.result.now c.index.ensures).place
