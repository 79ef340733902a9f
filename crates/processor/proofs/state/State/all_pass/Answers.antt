use Rattle.std.proofs.Common.{rules, ◌∙◌, take}
use Rattle.std.proofs.lemmas.Iterator.{YieldsList-from_slice}
use Rattle.std.proofs.lemmas.Iterator.Search.{all_from_yields_List}
use Rattle.command.specs.Plain.{test_holds}
use Rattle.command.specs.Breaks.{test_of}
use Rattle.processor.proofs.Tests.{every_each}
use Rattle.processor.proofs.state.State.all_pass.Goals as goal

pub returns : goal.returns
returns c b s l =
    let xs = take c.args.stop.now.count c.args.stop.now.tests in
    all_from_yields_List (λ z. test_holds s (test_of z)) _ _ _ c.all.ensures.ran (YieldsList-from_slice xs cc) (λ x r q k. search rules)
    ∙ every_each (test_holds s) test_of xs
