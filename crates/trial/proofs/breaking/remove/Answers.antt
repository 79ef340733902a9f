use Rattle.std.proofs.Common.{rules, not, eqb, ap, ◌∙◌}
use Rattle.std.proofs.lemmas.Fn.{filter_same}
use Rattle.command.specs.Machine.{each}
use Rattle.trial.specs.Kept.{break_numbered}
use Rattle.trial.proofs.Sieves.{those_are}
use Rattle.trial.proofs.breaking.remove.Goals as goal
use borrow.Author.Tests.{tests}

pub returns-clause-rest : goal.returns-clause-rest
returns-clause-rest c =
    ap (each break_numbered) (filter_same _ (λ b. not (eqb b.number c.args.number)) _ (λ x b q k. search (rules, tests)) _ _ c.retain.ensures.filtered)
    ∙ those_are (λ b. not (eqb b.id c.args.number)) break_numbered _
