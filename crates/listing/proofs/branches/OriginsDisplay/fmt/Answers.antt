use Rattle.std.proofs.Common.{true, false}
use Rattle.std.proofs.Output.{has_written_of_eq}
use Rattle.command.specs.Codes.{codes}
use Rattle.listing.proofs.Turns.{origins_are}
use Rattle.listing.proofs.branches.OriginsDisplay.fmt.Goals as goal

pub returns-in-true-true-clause-writes : goal.returns-in-true-true-clause-writes
returns-in-true-true-clause-writes g c = λ plain ok.
    let o = c.args.self.now in
    has_written_of_eq g.W.Write.write_str_gives _ _ _ _ (origins_are (codes o.program.now) o.place o.gap.count true true c.in-true-true.ensures c.in-true-true.ensures') (c.write.ensures.writes plain ok)

pub returns-in-true-false-clause-writes : goal.returns-in-true-false-clause-writes
returns-in-true-false-clause-writes g c = λ plain ok.
    let o = c.args.self.now in
    has_written_of_eq g.W.Write.write_str_gives _ _ _ _ (origins_are (codes o.program.now) o.place o.gap.count true false c.in-true-false.ensures c.in-true-false.ensures') (c.write-in-true-false.ensures.writes plain ok)

pub returns-in-false-true-clause-writes : goal.returns-in-false-true-clause-writes
returns-in-false-true-clause-writes g c = λ plain ok.
    let o = c.args.self.now in
    has_written_of_eq g.W.Write.write_str_gives _ _ _ _ (origins_are (codes o.program.now) o.place o.gap.count false true c.in-false-true.ensures c.in-false-true.ensures') (c.write-in-false-true.ensures.writes plain ok)
