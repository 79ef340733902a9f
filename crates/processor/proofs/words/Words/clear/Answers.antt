use Rattle.std.proofs.Common.{◌∙◌}
use Rattle.processor.specs.Held.{held_word}
use Rattle.processor.proofs.Defaults.{defaults}
use Rattle.processor.proofs.Flushes.{dirty_clean}
use Rattle.processor.proofs.words.Words.clear.Goals as goal

pub invariant_of-self : goal.invariant_of-self
invariant_of-self c = let v = c.args.self.now in record { full = c.fill.ensures.len ∙ v.full; clean = dirty_clean _ (held_word v.pages) }

pub returns : goal.returns
returns c a = defaults _ _ 0 (c.fill.ensures.items (λ y e. e)) a
