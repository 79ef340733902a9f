use Rattle.std.proofs.Common.{◌≡◌, take, drop}
use Rattle.command.specs.Machine.{eight, flat}
use Rattle.command.specs.Taken.{left}
use Rattle.command.specs.Told.{numbers_in}
use Rattle.machine.proofs.row.put_given.Given as goal

abbrev pub invariant-loop-place : goal.invariant-loop-place
invariant-loop-place l =
    (left l.cursor ≡ flat eight (drop l.place-index (numbers_in (drop 1 l.text)))) × (take l.place-index l.place-items ≡ take l.place-index (numbers_in (drop 1 l.text)))
