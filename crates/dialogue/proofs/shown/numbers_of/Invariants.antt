use Rattle.std.proofs.Common.{length, vec_items}
use Rattle.command.specs.Taken.{left}
use Rattle.dialogue.proofs.Decoding.{SoFar}
use Rattle.dialogue.proofs.shown.numbers_of.Given as goal

abbrev pub invariant-loop-number : goal.invariant-loop-number
invariant-loop-number l = SoFar l.bytes (vec_items l.numbers) (left l.cursor)

abbrev pub decreases-loop-number : goal.decreases-loop-number
decreases-loop-number l = length (left l.cursor)
