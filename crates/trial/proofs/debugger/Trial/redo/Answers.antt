use Rattle.std.proofs.Common.{refl, arith}
use Rattle.trial.proofs.Moves.{on_none, on_some}
use Rattle.trial.proofs.debugger.Trial.redo.Goals as goal

pub returns-in-Some : goal.returns-in-Some
returns-in-Some c =
    record {
      kept = λ w k.
          on_some _ _ _ _ _ _ _ w k c.index.result.now c.in-Some.w _ c.index.ensures (omega (arith, c.args.self.now.past.ok.0)) c.in-Some.is
          (omega (arith, c.put.ensures.there, c.args.self.now.memory.words.ok.0)) c.put.ensures.items;
      time = refl;
    }

pub returns-in_default : goal.returns-in_default
returns-in_default c =
    record {
      kept = λ w k. on_none _ _ _ _ _ _ _ w k c.index.result.now c.index.ensures (omega (arith, c.args.self.now.past.ok.0)) c.in_default.is;
      time = refl;
    }
