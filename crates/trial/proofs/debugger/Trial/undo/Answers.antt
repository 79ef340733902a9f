use Rattle.std.proofs.Common.{refl, arith}
use Rattle.trial.proofs.Moves.{back_none, back_some}
use Rattle.trial.proofs.debugger.Trial.undo.Goals as goal

pub returns-in-Some : goal.returns-in-Some
returns-in-Some c =
    record {
      kept = λ w k.
          back_some _ _ _ _ _ _ _ w k c.index.result.now c.in-Some.w _ c.index.ensures c.requires c.in-Some.is
          (omega (arith, c.put.ensures.there, c.args.self.now.memory.words.ok.0)) c.put.ensures.items;
      time = refl;
    }

pub returns-in_default : goal.returns-in_default
returns-in_default c =
    record {
      kept = λ w k. back_none _ _ _ _ _ _ _ w k c.index.result.now c.index.ensures c.requires c.in_default.is;
      time = refl;
    }
