use Rattle.std.proofs.Common.{◌≡◌, ◌+◌, ◌<◌, ◌≤◌, length, vec_items, refl, sym, ap, ◌∙◌, arith}
use Rattle.command.specs.Breaks.{break_of}
use Rattle.command.specs.Machine.{flat, eight}
use Rattle.command.specs.Plain.{add_break}
use Rattle.command.proofs.Writes.{each_length}
use Rattle.trial.specs.Kept.{break_numbered}
use Rattle.trial.specs.declared.turns.Refusal.TheVariants.{Full}
use Rattle.trial.proofs.Moves.{with_break}
use Rattle.trial.proofs.Turning.{shown_as, refused_with, one_row, turn_break, turn_break_no}
use Rattle.trial.proofs.debugger.Trial.add_break.Goals as goal

pub returns-then-len-ge-MOST_BREAKS : goal.returns-then-len-ge-MOST_BREAKS
returns-then-len-ge-MOST_BREAKS c w k =
    let e = ap length k.breaks ∙ each_length break_numbered (vec_items c.args.self.now.breaks) in
    let l : 64 ≤ length w.breaks = omega (arith, e, c.len.ensures, c.if-len-ge-MOST_BREAKS.true, c.args.self.now.breaks.ok.0) in
    refused_with _ w (add_break (break_of c.args.stop)) _ Full refl (turn_break_no w _ l) k

pub returns : goal.returns
returns c w k =
    let e = ap length k.breaks ∙ each_length break_numbered (vec_items c.args.self.now.breaks) in
    let l : length w.breaks < 64 = omega (arith, e, c.len.ensures, c.if-len-ge-MOST_BREAKS.false, c.args.self.now.breaks.ok.0) in
    let n = rw c.in_ok-next.ensures.ok_part at c.checked_add.ensures in
    let u : c.in_ok-next.next ≡ c.args.self.now.next + 1 = n.1 in
    shown_as _ w (add_break (break_of c.args.stop)) _ _ _ (turn_break w _ l) (ap (flat eight) c.in_ok-row.ensures.items ∙ one_row c.args.self.now.next ∙ ap eight (sym k.next))
    (with_break _ _ _ _ _ _ _ w k _ _ _ refl u c.in_ok-push.ensures.items)
