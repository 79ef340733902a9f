use Rattle.std.proofs.Common.{◌≡◌, ◌-◌, ◌^◌, ◌<◌}
use Rattle.command.specs.Reader.{bytes}
use Rattle.command.specs.Taken.{left_in}
use Rattle.command.proofs.reading.cursor.Cursor.number.Given as goal

abbrev pub invariant-loop : goal.invariant-loop
invariant-loop g l =
    let text = g.B.Byte.text in
    (bytes (8 - l.counter) l.number (left_in text l.self) ≡ bytes 8 0 (left_in text l.initial.self)) × (l.number < 256 ^ l.counter)
