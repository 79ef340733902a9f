use Rattle.std.proofs.Common.{◌+◌, take, drop, vec_items, sym, ap, ◌∙◌}
use Rattle.std.proofs.lemmas.Result.{IfOk-weaker}
use Rattle.command.specs.Machine.{flat}
use Rattle.command.specs.Plain.{at_time}
use Rattle.trial.proofs.Shows.{outs_at, outs_are, outs_of}
use Rattle.trial.proofs.debugger.Trial.outs_from.Goals as goal

pub returns : goal.returns
returns c =
    let past = vec_items c.args.self.now.past in
    let t = c.args.self.now.now in
    IfOk-weaker c.outs.result _ _
    (λ v p w k.
    p
    ∙ ap (λ z. take c.args.count (drop c.args.from z))
    (outs_are (take (t + 1) c.deref.result.now) ∙ ap (λ z. flat outs_of (take (t + 1) z)) c.deref.ensures.value ∙ outs_at w.program w.ins past k.history t k.known ∙ ap (λ z. (at_time w z).out) (sym k.time)))
    c.outs.ensures
