use Rattle.std.proofs.Common.{ap}
use Rattle.command.specs.Machine.{flat, eight}
use Rattle.command.specs.Plain.{forward, back, run, rerun, where_now, registers, words_from, outs_from}
use Rattle.trial.proofs.Turning.{moved_there, shown_as, turn_forward, turn_back, turn_run, turn_rerun, turn_where, turn_registers, turn_words, turn_outs}
use Rattle.trial.proofs.debugger.Trial.answer.Goals as goal

pub returns-in_ok-time_row-in-Forward : goal.returns-in_ok-time_row-in-Forward
returns-in_ok-time_row-in-Forward c w k = rw c.in-Forward.is (moved_there _ w (forward c.in-Forward.n) _ _ (turn_forward w c.in-Forward.n) c.in_ok-time_row-in-Forward.ensures (c.in_ok-forward-in-Forward.ensures w k))

pub returns-in_ok-time_row-in-Back : goal.returns-in_ok-time_row-in-Back
returns-in_ok-time_row-in-Back c w k = rw c.in-Back.is (moved_there _ w (back c.in-Back.n) _ _ (turn_back w c.in-Back.n) c.in_ok-time_row-in-Back.ensures (c.back.ensures.kept w k))

pub returns-in_ok-time_row-in-Run : goal.returns-in_ok-time_row-in-Run
returns-in_ok-time_row-in-Run c w k = rw c.in-Run.is (moved_there _ w (run c.in-Run.n) _ _ (turn_run w c.in-Run.n) c.in_ok-time_row-in-Run.ensures (c.in_ok-run-in-Run.ensures w k))

pub returns-in_ok-time_row-in-Rerun : goal.returns-in_ok-time_row-in-Rerun
returns-in_ok-time_row-in-Rerun c w k = rw c.in-Rerun.is (moved_there _ w (rerun c.in-Rerun.n) _ _ (turn_rerun w c.in-Rerun.n) c.in_ok-time_row-in-Rerun.ensures (c.rerun.ensures w k))

pub returns-in_ok-stands-in-Where : goal.returns-in_ok-stands-in-Where
returns-in_ok-stands-in-Where c w k = rw c.in-Where.is (shown_as _ w where_now _ _ _ (turn_where w) (ap (flat eight) (c.in_ok-stands-in-Where.ensures w k)) k)

pub returns-in_ok-registers-in-Registers : goal.returns-in_ok-registers-in-Registers
returns-in_ok-registers-in-Registers c w k = rw c.in-Registers.is (shown_as _ w registers _ _ _ (turn_registers w) (ap (flat eight) (c.in_ok-registers-in-Registers.ensures w k)) k)

pub returns-in_ok-words_from-in-Words : goal.returns-in_ok-words_from-in-Words
returns-in_ok-words_from-in-Words c w k = rw c.in-Words.is (shown_as _ w (words_from c.in-Words.from c.in-Words.count) _ _ _ (turn_words w c.in-Words.from c.in-Words.count) (c.in_ok-words_from-in-Words.ensures w k) k)

pub returns-in_ok-outs_from-in-Outs : goal.returns-in_ok-outs_from-in-Outs
returns-in_ok-outs_from-in-Outs c w k = rw c.in-Outs.is (shown_as _ w (outs_from c.in-Outs.from c.in-Outs.count) _ _ _ (turn_outs w c.in-Outs.from c.in-Outs.count) (ap (flat eight) (c.in_ok-outs_from-in-Outs.ensures w k)) k)
