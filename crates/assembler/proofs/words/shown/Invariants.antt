use Rattle.std.proofs.Common.{◌≡◌, take, string_bytes}
use Rattle.command.specs.Machine.{each}
use Rattle.assembler.specs.Words.{printable}
use Rattle.assembler.proofs.words.shown.Given as goal

abbrev pub invariant-loop-b : goal.invariant-loop-b
invariant-loop-b l = string_bytes l.text ≡ each printable (take l.b-index l.bytes)
