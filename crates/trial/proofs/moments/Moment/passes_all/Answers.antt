use Rattle.std.proofs.Common.{rules, ◌∙◌}
use Rattle.std.proofs.lemmas.Iterator.{YieldsList-from_slice}
use Rattle.std.proofs.lemmas.Iterator.Search.{all_from_yields_List}
use Rattle.command.specs.Plain.{test_holds}
use Rattle.command.specs.Breaks.{test_of}
use Rattle.trial.proofs.Sieves.{every_is}
use Rattle.trial.proofs.moments.Moment.passes_all.Goals as goal
use borrow.Author.Tests.{tests}

pub returns : goal.returns
returns c s l held =
    all_from_yields_List (λ t. test_holds s (test_of t)) _ _ _ c.all.ensures.ran (YieldsList-from_slice c.args.tests.now cc) (λ x b q k. search (rules, tests))
    ∙ every_is (test_holds s) test_of c.args.tests.now
