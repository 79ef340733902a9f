use Rattle.std.proofs.Common.{◌-◌, List}
use Rattle.command.specs.Taken.{left_in}
use Rattle.command.proofs.Many.{Left}
use Rattle.command.proofs.reading.cursor.Cursor.list.Given as goal

abbrev pub invariant-loop : goal.invariant-loop
invariant-loop g l =
    let text = g.B.Byte.text in
    (done : List g.T.Spelled.Meant) × Left g.T.Spelled.reader l.count (left_in text l.initial.self) (l.count - l.counter) done (left_in text l.self)
