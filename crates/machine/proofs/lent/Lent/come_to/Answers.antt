use Rattle.machine.proofs.Plans.{comes_kept}
use Rattle.machine.proofs.lent.Lent.come_to.Goals as goal

pub returns : goal.returns
returns c =
    comes_kept c.args.self.memory.now c.args.self.row.now _ c.args.here c.args.left c.args.reached c.into.result c.levels_reached.result c.in-Some.slot
    c.if-not-reached.false c.ranges.here.fits c.ranges.left.fits c.into.ensures c.levels_reached.ensures.reached c.in-Some.ensures.slot c.shut_gaps.ensures
