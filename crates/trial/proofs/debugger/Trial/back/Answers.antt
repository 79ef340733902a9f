use Rattle.std.proofs.Common.{[], rules, sym}
use Rattle.trial.proofs.Loops.{moved_as, back_freely}
use Rattle.trial.proofs.debugger.Trial.back.Goals as goal

pub returns-clause-kept : goal.returns-clause-kept
returns-clause-kept c w k =
    moved_as w _ _ (sym (back_freely w w.now c.args.most)) (c.back_till.ensures.kept w [] (λ e b t pos at says. search rules) k)
