use Rattle.std.proofs.Common.{◌-◌}
use Rattle.listing.specs.Columns.{blanks}
use Rattle.listing.proofs.Writing.{Left}
use Rattle.listing.proofs.columns.BlanksDisplay.fmt.Given as goal

abbrev pub invariant-loop : goal.invariant-loop
invariant-loop g l = Left g.W.Write.write_str_gives l.initial.f (blanks l.self.count) l.f (blanks (l.self.count - l.counter))
