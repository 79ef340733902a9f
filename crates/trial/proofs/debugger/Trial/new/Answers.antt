use Rattle.std.proofs.Common.{[], ◌∷◌, ◌++◌, ap, ◌∙◌}
use Rattle.trial.proofs.Histories.{fresh_holds}
use Rattle.trial.proofs.debugger.Trial.new.Goals as goal

pub returns : goal.returns
returns c =
    fresh_holds _ _ _ _ _ c.new-2.ensures.items c.new-3.ensures.items (c.in_ok-push.ensures.items ∙ ap (λ z. z ++ c.first.result ∷ []) c.new-past.ensures.items ∙ ap (λ z. z ∷ []) c.first.ensures)
    c.in_ok-memory.ensures c.new-4.ensures.items
