-- The worked example, computed: both sides come to the same. Assumes nothing.
use Rattle.std.proofs.Common.{refl}
use Rattle.command.specs.Machine.{state_at, does, one, is_running, so_many, put_reg, put_word, word_at, reckon_done, reckoned, compared, taken_in, in_bytes}
use Rattle.command.specs.Plain.{fits, an_instr, turn, on_till, back_till, last_change, changer_turn, status_number, words_shown}
use Rattle.command.specs.Box.{played, session, WorkedBox}

pub worked_box : WorkedBox
unfolding WorkedBox session played fits an_instr turn on_till back_till last_change changer_turn status_number words_shown state_at does one is_running so_many put_reg put_word word_at reckon_done reckoned compared taken_in in_bytes
worked_box = (refl, λ w. refl)
