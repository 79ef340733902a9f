use Rattle.std.proofs.Common.{sym, ◌∙◌}
use Rattle.std.proofs.lemmas.Result.{IfOk-weaker}
use Rattle.trial.proofs.Moves.{moment_here}
use Rattle.trial.proofs.debugger.Trial.registers.Goals as goal

pub returns : goal.returns
returns c =
    IfOk-weaker c.registers.result _ _ (λ v p w k. p ∙ sym (moment_here _ _ _ _ _ _ _ w k c.index.result.now c.index.ensures).registers) c.registers.ensures
