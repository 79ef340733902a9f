use Rattle.std.proofs.Common.{drop}
use Rattle.command.specs.Codes.{codes}
use Rattle.assembler.specs.Instructions.{labels_of}
use Rattle.listing.specs.Window.{lines_on, lines_text}
use Rattle.listing.proofs.Writing.{Left}
use Rattle.listing.proofs.window.ListingDisplay.fmt.Given as goal

abbrev pub invariant-loop-place : goal.invariant-loop-place
invariant-loop-place g l =
    Left g.W.Write.write_str_gives l.initial.f
    (lines_text (codes l.self.program.now) (labels_of l.self.labels.now) l.self.from l.self.to l.self.arrow) l.f
    (lines_on (codes l.self.program.now) (labels_of l.self.labels.now) l.self.from l.self.to l.self.arrow l.place
    (codes (drop l.place l.self.program.now)))
