use Rattle.std.proofs.Common.{◌≡◌, ◌-◌, length, take}
use Rattle.command.specs.Machine.{each}
use Rattle.command.specs.Breaks.{test_of}
use Rattle.command.specs.Reader.{test}
use Rattle.command.specs.Taken.{left_in}
use Rattle.command.proofs.Many.{Left}
use Rattle.command.proofs.reading.cursor.Cursor.tests.Given as goal

abbrev pub invariant-loop-test : goal.invariant-loop-test
invariant-loop-test g l =
    let text = g.B.Byte.text in
    (length l.test-items ≡ l.count) × Left test l.count (left_in text l.initial.self) (l.count - l.test-index) (each test_of (take l.test-index l.test-items)) (left_in text l.self)
