use Rattle.std.proofs.Common.{rules, ◌∙◌}
use Rattle.std.proofs.lemmas.Iterator.{YieldsList-from_slice}
use Rattle.std.proofs.lemmas.Iterator.Search.{any_from_yields_List}
use Rattle.command.specs.Plain.{holds}
use Rattle.command.specs.Breaks.{break_of}
use Rattle.processor.proofs.Tests.{any_each}
use Rattle.processor.proofs.state.State.any_holds.Goals as goal

pub returns : goal.returns
returns c b s t o =
    any_from_yields_List (λ z. holds s t (break_of z)) _ _ _ c.any.ensures.ran (YieldsList-from_slice c.args.breaks.now cc) (λ x r q k. search rules)
    ∙ any_each (holds s t) break_of c.args.breaks.now
