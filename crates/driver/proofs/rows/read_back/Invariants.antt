use Rattle.std.proofs.Common.{◌-◌, length, take}
use Rattle.command.specs.Machine.{each}
use Rattle.command.specs.Taken.{left}
use Rattle.command.proofs.Many.{Left}
use Rattle.driver.proofs.rows.read_back.Given as goal

abbrev pub invariant-loop-slot : goal.invariant-loop-slot
invariant-loop-slot g l =
    Left g.T.InRow.reader (length l.initial.slot-items) l.text (length l.initial.slot-items - l.slot-index) (each g.T.InRow.plain (take l.slot-index l.slot-items)) (left l.cursor)
