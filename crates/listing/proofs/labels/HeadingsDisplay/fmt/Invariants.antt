use Rattle.std.proofs.Common.{drop}
use Rattle.assembler.specs.Instructions.{labels_of}
use Rattle.listing.specs.Labels.{headings}
use Rattle.listing.proofs.Writing.{Left}
use Rattle.listing.proofs.labels.HeadingsDisplay.fmt.Given as goal

abbrev pub invariant-loop-label : goal.invariant-loop-label
invariant-loop-label g l =
    Left g.W.Write.write_str_gives l.initial.f (headings (labels_of l.self.labels.now) l.self.place) l.f
    (headings (labels_of (drop l.label-index l.self.labels.now)) l.self.place)
