use Rattle.std.proofs.Common.{◌≡◌, take}
use Rattle.command.specs.Machine.{eight, flat}
use Rattle.machine.specs.Entry.{on_row}
use Rattle.machine.proofs.row.show.Given as goal

abbrev pub invariant-loop-i : goal.invariant-loop-i
invariant-loop-i l = l.row ≡ on_row (flat eight (take l.i l.numbers)) l.initial.row
