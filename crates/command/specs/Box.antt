-- A worked example: a small program with a mistake in it, and a session that finds the mistake. Assumes nothing: these are definitions, but for
-- the statement at the end, which a function of src/statements.rt has as its contract.
use Rattle.std.specs.Prelude.{◌≡◌, ℕ, true, List, [], ◌∷◌}
use Rattle.command.specs.Machine.{each, every, flat, eight, Instr, load_number, reckon, read, write, jump, jump_if, call, return, take_in, put_out, halt}
use Rattle.command.specs.Plain.{Break, Command, load, give, forward, back, run, rerun, changer, add_break, drop_break, where_now, words_from, outs_from, fits, Plain, turn}

-- adds up in word 10 what comes in, up to a 0, and is to count it in word 11; but instruction 17 writes the sum there
abbrev pub box : List Instr
box =
    load_number 15 1000 ∷ load_number 7 20 ∷ load_number 1 10 ∷ take_in 2 ∷ jump_if 0 2 3 10 ∷ read 4 1 0 ∷ reckon 0 4 2 ∷ write 4 1 0 ∷ call 12 ∷ jump 3
    ∷ put_out 4 ∷ halt ∷ read 5 1 1 ∷ load_number 6 1 ∷ reckon 0 5 6 ∷ jump_if 3 4 7 17 ∷ write 5 1 1 ∷ write 4 1 1 ∷ return ∷ []

-- holds where word 10 changed, and isn't below 14
abbrev pub large_sum : Break
large_sum = record { id = 0; place = []; tests = record { kind = 1; which = 10; sign = 3; value = 14 } ∷ []; changed = 10 ∷ [] }

-- a command, how it ends, and what it shows
pub record Row : Type 0 where
  pub asked : Command
  pub reply : ℕ
  pub shows : List (List ℕ)

abbrev pub quietly : Command → Row
quietly c = record { asked = c; reply = 0; shows = [] }

abbrev pub showing : Command → List ℕ → Row
showing c ns = record { asked = c; reply = 0; shows = flat eight ns ∷ [] }

abbrev pub refused : Command → ℕ → Row
refused c k = record { asked = c; reply = k; shows = [] }

-- what the plain debugger makes of commands, one after another
unfoldable pub played : Plain → List Command → List Row
played w [] = []
played w (c ∷ cs) = record { asked = c; reply = (turn w c).reply; shows = (turn w c).shows } ∷ played (turn w c).next cs

unfoldable pub session : List Row
session =
    quietly (load box)
    ∷ showing where_now (0 ∷ 0 ∷ 0 ∷ [])
    ∷ showing (forward 100) (3 ∷ [])
    ∷ showing where_now (3 ∷ 3 ∷ 2 ∷ [])
    ∷ quietly (give (5 ∷ 9 ∷ 8 ∷ 0 ∷ []))
    ∷ showing (run 1000) (47 ∷ [])
    ∷ showing where_now (47 ∷ 11 ∷ 1 ∷ [])
    ∷ showing (words_from 10 2) (22 ∷ 22 ∷ [])
    ∷ showing (outs_from 0 5) (22 ∷ [])
    ∷ showing (changer 11) (42 ∷ [])
    ∷ showing where_now (42 ∷ 18 ∷ 0 ∷ [])
    ∷ showing (back 1) (41 ∷ [])
    ∷ showing (words_from 10 2) (22 ∷ 14 ∷ [])
    ∷ showing (add_break large_sum) (1 ∷ [])
    ∷ showing (rerun 1000) (36 ∷ [])
    ∷ showing where_now (36 ∷ 8 ∷ 0 ∷ [])
    ∷ showing (rerun 1000) (22 ∷ [])
    ∷ showing (run 1000) (36 ∷ [])
    ∷ quietly (drop_break 1)
    ∷ refused (drop_break 1) 3
    ∷ refused (changer 12) 3
    ∷ []

-- The session's commands fit, and wherever it begins, the plain debugger answers it so, row by row.
unfoldable pub WorkedBox : Type 0
WorkedBox = (every (λ r. fits r.asked) session ≡ true) × ((w : Plain) → played w (each (λ r. r.asked) session) ≡ session)
