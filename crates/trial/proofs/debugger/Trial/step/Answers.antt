use Rattle.trial.specs.Moments.{Next}
use Rattle.trial.proofs.Moves.{next_is}
use Rattle.trial.proofs.debugger.Trial.step.Goals as goal

pub returns : goal.returns
returns c w k =
    rw k.time
    (next_is _ _ _ _ _ _ _ w k _ _ c.index.result.now c.as_slice.ensures.value c.as_slice-2.ensures.value c.index.ensures (Next c.next.result) c.next.ensures)
