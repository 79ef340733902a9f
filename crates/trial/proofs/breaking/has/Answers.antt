use Rattle.std.proofs.Common.{rules, eqb, ◌∙◌}
use Rattle.std.proofs.lemmas.Iterator.{YieldsList-from_slice}
use Rattle.std.proofs.lemmas.Iterator.Search.{any_from_yields_List}
use Rattle.trial.specs.Kept.{break_numbered}
use Rattle.trial.proofs.Sieves.{any_is}
use Rattle.trial.proofs.breaking.has.Goals as goal
use borrow.Author.Tests.{tests}

pub returns : goal.returns
returns c =
    any_from_yields_List (λ b. eqb b.number c.args.number) _ _ _ c.any.ensures.ran (YieldsList-from_slice c.args.breaks.now cc) (λ x b q k. search (rules, tests))
    ∙ any_is (λ b. eqb b.id c.args.number) break_numbered c.args.breaks.now
