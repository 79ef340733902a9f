use Rattle.std.proofs.Common.{[], ◌∷◌, vec_items, rules}
use Rattle.command.specs.Plain.{spelled, break_spelled}
use Rattle.command.specs.Breaks.{break_of}
use Rattle.command.proofs.Writes.{puts_then}
use Rattle.command.proofs.writing.put_order.Goals as goal

pub returns-in-Forward : goal.returns-in-Forward
unfolding spelled
returns-in-Forward c = search rules

pub returns-in-Back : goal.returns-in-Back
unfolding spelled
returns-in-Back c = search rules

pub returns-in-Run : goal.returns-in-Run
unfolding spelled
returns-in-Run c = search rules

pub returns-in-Rerun : goal.returns-in-Rerun
unfolding spelled
returns-in-Rerun c = search rules

pub returns-in-Changer : goal.returns-in-Changer
unfolding spelled
returns-in-Changer c = search rules

pub returns-in-Drop : goal.returns-in-Drop
unfolding spelled
returns-in-Drop c = search rules

pub returns-in-Where : goal.returns-in-Where
unfolding spelled
returns-in-Where c = search rules

pub returns-in-Registers : goal.returns-in-Registers
unfolding spelled
returns-in-Registers c = search rules

pub returns-in-Words : goal.returns-in-Words
unfolding spelled
returns-in-Words c = search rules

pub returns-in-Outs : goal.returns-in-Outs
unfolding spelled
returns-in-Outs c = search rules

pub returns-in_ok-put-in-Break : goal.returns-in_ok-put-in-Break
unfolding spelled
returns-in_ok-put-in-Break c =
    rw c.in-Break.is
    (puts_then c.put_break.result (vec_items c.args.out.now) (8 ∷ []) (break_spelled (break_of c.in-Break.stop)) (vec_items c.put.new.out) (vec_items c.put_break.new.out)
    c.in_ok-put-in-Break.ensures c.put_break.ensures)
