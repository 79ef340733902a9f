use Rattle.std.proofs.Common.{ap, ◌∙◌, rules}
use Rattle.std.proofs.lemmas.List.{take_all}
use Rattle.command.specs.Machine.{each}
use Rattle.assembler.specs.Words.{printable}
use Rattle.assembler.proofs.Runs.{each_more}
use Rattle.assembler.proofs.words.shown.Goals as goal

pub loop-b-preserved : goal.loop-b-preserved
loop-b-preserved c =
    let e = each_more printable c.args.bytes.now c.loop-b.b-index c.loop-b-test.true in
    let i = c.loop-b.invariant in
    let f = c.in_ok-push.ensures.bytes in
    let g = c.in_ok-push.ensures.ascii in
    search rules

pub returns : goal.returns
returns c = c.loop-b.invariant ∙ ap (each printable) (take_all c.loop-b.b-index c.args.bytes.now c.loop-b-test.false)
