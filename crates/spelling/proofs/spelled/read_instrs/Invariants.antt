use Rattle.std.proofs.Common.{◌-◌, vec_items}
use Rattle.command.specs.Codes.{codes}
use Rattle.command.specs.Reader.{instr}
use Rattle.command.specs.Taken.{left}
use Rattle.command.proofs.Many.{Left}
use Rattle.spelling.proofs.spelled.read_instrs.Given as goal

abbrev pub invariant-loop : goal.invariant-loop
invariant-loop l = Left instr l.count (left l.initial.cursor) (l.count - l.counter) (codes (vec_items l.program)) (left l.cursor)
