use Rattle.std.proofs.Common.{true, [], is_ok, refl, ap}
use Rattle.listing.proofs.Writing.{left_as, left_less, left_none}
use Rattle.listing.proofs.Counts.{blank_more, blank_end}
use Rattle.listing.proofs.columns.BlanksDisplay.fmt.Goals as goal

pub loop-preserved : goal.loop-preserved
loop-preserved g c =
    let s = left_as g.W.Write.write_str_gives _ _ _ _ _ (blank_more c.args.self.now.count c.loop.counter c.loop-test.true) c.loop.invariant in
    left_less g.W.Write.write_str_gives _ _ _ true _ _ _ [] _ _ _ refl refl refl (ap is_ok c.in_ok-write_str.was) c.write_str.ensures.writes s

pub returns-clause-writes : goal.returns-clause-writes
returns-clause-writes g c =
    left_none g.W.Write.write_str_gives _ _ _
    (left_as g.W.Write.write_str_gives _ _ _ _ _ (blank_end c.args.self.now.count c.loop.counter c.loop-test.false) c.loop.invariant)
