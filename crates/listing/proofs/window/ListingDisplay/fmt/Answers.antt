use Rattle.std.proofs.Common.{Bool, is_ok, sym, ap}
use Rattle.command.specs.Codes.{code, codes}
use Rattle.assembler.specs.Instructions.{labels_of}
use Rattle.listing.specs.Lines.{line_text}
use Rattle.listing.proofs.Writing.{left_as, left_less, left_same, left_none}
use Rattle.listing.proofs.Turns.{line_at, line_end}
use Rattle.listing.proofs.window.ListingDisplay.fmt.Goals as goal
use Rattle.listing.proofs.window.ListingDisplay.fmt.Goals.{then-has+in_ok-write, else-has}

pub loop-place-preserved : goal.loop-place-preserved
loop-place-preserved g c =
    let is = c.args.self.now.program.now in
    let s = left_as g.W.Write.write_str_gives _ _ _ _ _ (line_at (codes is) (labels_of c.args.self.now.labels.now) c.args.self.now.from c.args.self.now.to c.args.self.now.arrow is c.loop-place.place c.instr-item.result c.loop-place-test.true c.instr-item.is) c.loop-place.invariant in
    elim c.if-has.branch [
      | then-has+in_ok-write w ↦
          left_less g.W.Write.write_str_gives _ _ _ _ _ _ _ _ _ _ _ (sym w.if-has.ensures)
          (ap (λ (b : Bool). line_text (codes is) (labels_of c.args.self.now.labels.now) b c.loop-place.place (code c.instr-item.result)) w.has_arrow.ensures)
          w.f-is (ap is_ok w.in_ok-write.was) w.write.ensures.writes s
      | else-has w ↦ left_same g.W.Write.write_str_gives _ _ _ _ _ _ _ (sym w.if-has.ensures) w.f-is s
    ]

pub returns-clause-writes : goal.returns-clause-writes
returns-clause-writes g c =
    left_none g.W.Write.write_str_gives _ _ _
    (left_as g.W.Write.write_str_gives _ _ _ _ _ (line_end (codes c.args.self.now.program.now) (labels_of c.args.self.now.labels.now) c.args.self.now.from c.args.self.now.to c.args.self.now.arrow c.args.self.now.program.now c.loop-place.place c.loop-place-test.false) c.loop-place.invariant)
