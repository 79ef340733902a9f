use Rattle.std.proofs.Common.{◌≡◌, ◌+◌, [], vec_items}
use Rattle.assembler.specs.Instructions.{labels_of}
use Rattle.assembler.specs.Source.{lines, find_labels}
use Rattle.assembler.proofs.source.find_labels.Given as goal

abbrev pub invariant-loop-i : goal.invariant-loop-i
invariant-loop-i l = find_labels (l.i-iterator.count + 1) (labels_of (vec_items l.labels)) l.place (lines l.i-iterator.iter.rest.now) ≡ find_labels 1 [] 0 (lines l.text)
