use Rattle.std.proofs.Common.{◌≡◌, ◌+◌, [], vec_items}
use Rattle.command.specs.Codes.{codes}
use Rattle.assembler.specs.Instructions.{labels_of}
use Rattle.assembler.specs.Source.{lines, read_lines}
use Rattle.assembler.proofs.source.read_lines.Given as goal

abbrev pub invariant-loop-i : goal.invariant-loop-i
invariant-loop-i l = read_lines (l.i-iterator.count + 1) (labels_of l.labels) (codes (vec_items l.program)) (lines l.i-iterator.iter.rest.now) ≡ read_lines 1 (labels_of l.labels) [] (lines l.text)
