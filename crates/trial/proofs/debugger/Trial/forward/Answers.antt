use Rattle.std.proofs.Common.{[], rules}
use Rattle.std.proofs.lemmas.Result.{on_ok_weaker}
use Rattle.trial.proofs.debugger.Trial.forward.Goals as goal

pub returns : goal.returns
returns c = on_ok_weaker c.on_till.result (λ h w k. h w [] (λ e b t pos at says. search rules) k) c.on_till.ensures
