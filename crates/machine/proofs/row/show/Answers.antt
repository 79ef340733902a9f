use Rattle.machine.proofs.Rows.{show_more, shown}
use Rattle.machine.proofs.row.show.Goals as goal

pub loop-i-preserved : goal.loop-i-preserved
loop-i-preserved c = let e = show_more c.args.row.now c.args.numbers.now c.loop-i.i c.loop-i-test.true in cc

pub returns : goal.returns
returns c = shown c.args.row.now _ c.args.numbers.now c.loop-i.i c.loop-i-test.false c.loop-i.invariant
