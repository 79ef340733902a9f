use Rattle.std.proofs.Common.{refl, arith}
use Rattle.std.proofs.lemmas.Bool.{both_ways}
use Rattle.trial.proofs.Moves.{goes, stuck, more}
use Rattle.trial.proofs.debugger.Trial.reaches.Goals as goal

pub returns-then-self-len : goal.returns-then-self-len
returns-then-self-len c =
    record {
      there = λ _. omega (arith, c.len.ensures, c.if-self-len.true);
      tells = λ w k. (goes _ _ _ _ _ _ _ w k (omega (arith, c.len.ensures, c.if-self-len.true, c.args.self.now.past.ok.0)), k);
    }

pub returns-in_default : goal.returns-in_default
returns-in_default c = record { there = λ e. absurd (both_ways _ refl e); tells = λ w k. (stuck w c.in_default.field-0 (c.in_default.ensures w k), k) }

pub returns : goal.returns
returns c =
    record {
      there = λ _. omega (arith, c.in_ok-push.ensures.len, c.args.self.now.known);
      tells = λ w k.
          more _ _ _ _ _ _ _ w k c.in-Ok.moment _ (c.in-Ok.ensures w k) (omega (arith, c.len.ensures, c.if-self-len.false, c.args.self.now.known, c.args.self.now.past.ok.0))
          c.in_ok-push.ensures.items;
    }
