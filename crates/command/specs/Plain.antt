-- What is asked of a debugger, and the plain one, which begins anew each time. Assumes nothing: these are definitions.
use Rattle.std.specs.Prelude.{ℕ, zero, suc, ◌+◌, ◌-◌, ◌*◌, Bool, true, false, not, ◌&&◌, eqb, ltb, List, [], ◌∷◌, ◌++◌, length, take, drop, ◌==◌, nat_le, nat_lt}
use Rattle.command.specs.Machine.{pick, every, any, those, flat, eight, larger, Instr, load_number, copy, reckon, read, write, jump, jump_if, call, return, take_in, put_out, halt, Word, Status, running, halted, wrong, waiting, State, word_at, reg, compared, state_at, goes_on}

-- a test: 0 a register, 1 a word; which; how it compares with a number
pub record Test : Type 0 where
  pub kind : ℕ
  pub which : ℕ
  pub sign : ℕ
  pub value : ℕ

-- where to stop: at a place or anywhere; if tests hold; if the step before changed a word, or whatever
pub record Break : Type 0 where
  pub id : ℕ
  pub place : List ℕ
  pub tests : List Test
  pub changed : List ℕ

pub data Command : Type 0 where
  load : List Instr → Command
  give : List ℕ → Command  -- what is to come in, after all that was given
  forward : ℕ → Command
  back : ℕ → Command
  run : ℕ → Command  -- on, up to so many steps, till a break holds
  rerun : ℕ → Command  -- back likewise
  changer : ℕ → Command  -- back to right after the last step that changed a word
  add_break : Break → Command
  drop_break : ℕ → Command
  where_now : Command
  registers : Command
  words_from : ℕ → ℕ → Command
  outs_from : ℕ → ℕ → Command

unfoldable pub instr_spelled : Instr → List ℕ
instr_spelled (load_number k n) = 0 ∷ k ∷ eight n
instr_spelled (copy k j) = 1 ∷ k ∷ j ∷ []
instr_spelled (reckon o k j) = 2 ∷ o ∷ k ∷ j ∷ []
instr_spelled (read k b n) = 3 ∷ k ∷ b ∷ eight n
instr_spelled (write k b n) = 4 ∷ k ∷ b ∷ eight n
instr_spelled (jump k) = 5 ∷ eight k
instr_spelled (jump_if c k j n) = 6 ∷ c ∷ k ∷ j ∷ eight n
instr_spelled (call k) = 7 ∷ eight k
instr_spelled return = 8 ∷ []
instr_spelled (take_in k) = 9 ∷ k ∷ []
instr_spelled (put_out k) = 10 ∷ k ∷ []
instr_spelled halt = 11 ∷ []

abbrev pub numbers : List ℕ → List ℕ
numbers ns = eight (length ns) ++ flat eight ns

abbrev pub test_spelled : Test → List ℕ
test_spelled t = t.kind ∷ eight t.which ++ t.sign ∷ eight t.value

abbrev pub break_spelled : Break → List ℕ
break_spelled b = numbers b.place ++ eight (length b.tests) ++ flat test_spelled b.tests ++ numbers b.changed

unfoldable pub spelled : Command → List ℕ
spelled (load is) = 1 ∷ eight (length is) ++ flat instr_spelled is
spelled (give vs) = 2 ∷ numbers vs
spelled (forward n) = 3 ∷ eight n
spelled (back n) = 4 ∷ eight n
spelled (run n) = 5 ∷ eight n
spelled (rerun n) = 6 ∷ eight n
spelled (changer a) = 7 ∷ eight a
spelled (add_break b) = 8 ∷ break_spelled b
spelled (drop_break i) = 9 ∷ eight i
spelled where_now = 10 ∷ []
spelled registers = 11 ∷ []
spelled (words_from a n) = 12 ∷ eight a ++ eight n
spelled (outs_from a n) = 13 ∷ eight a ++ eight n

abbrev pub a_word : ℕ → Bool
a_word n = nat_lt n 4294967296

abbrev pub a_reg : ℕ → Bool
a_reg k = nat_lt k 16

unfoldable pub an_instr : Instr → Bool
an_instr (load_number k n) = a_reg k && a_word n
an_instr (copy k j) = a_reg k && a_reg j
an_instr (reckon o k j) = nat_lt o 10 && (a_reg k && a_reg j)
an_instr (read k b n) = a_reg k && (a_reg b && nat_lt n 65536)
an_instr (write k b n) = a_reg k && (a_reg b && nat_lt n 65536)
an_instr (jump k) = nat_lt k 65536
an_instr (jump_if c k j n) = (nat_lt c 4 && a_reg k) && (a_reg j && nat_lt n 65536)
an_instr (call k) = nat_lt k 65536
an_instr return = true
an_instr (take_in k) = a_reg k
an_instr (put_out k) = a_reg k
an_instr halt = true

abbrev pub a_test : Test → Bool
a_test t = (nat_lt t.kind 2 && nat_lt t.which (pick (t.kind == 0) 16 65536)) && (nat_lt t.sign 4 && a_word t.value)

-- a break as it's given has no number yet
abbrev pub a_break : Break → Bool
a_break b =
    (b.id == 0 && (nat_le (length b.place) 1 && every (λ k. ltb k 65536) b.place))
    && ((nat_le (length b.tests) 8 && every a_test b.tests) && (nat_le (length b.changed) 1 && every (λ k. ltb k 65536) b.changed))

abbrev pub billion : ℕ
billion = 1000000000

unfoldable pub fits : Command → Bool
fits (load is) = nat_le (length is) 4096 && every an_instr is
fits (give vs) = nat_le (length vs) 4096 && every a_word vs
fits (forward n) = nat_le n billion
fits (back n) = nat_le n billion
fits (run n) = nat_le n billion
fits (rerun n) = nat_le n billion
fits (changer a) = nat_lt a 65536
fits (add_break b) = a_break b
fits (drop_break i) = nat_lt i 18446744073709551616
fits where_now = true
fits registers = true
fits (words_from a n) = nat_lt a 65536 && nat_le n 4096
fits (outs_from a n) = nat_lt a 18446744073709551616 && nat_le n 4096

-- THE SMALL CORE: what the first landings know. The requests widen it, until everything is known.
unfoldable pub core : Command → Bool
core (load is) = true
core (give vs) = true
core (forward n) = true
core (back n) = false
core (run n) = false
core (rerun n) = false
core (changer a) = false
core (add_break b) = false
core (drop_break i) = false
core where_now = true
core registers = true
core (words_from a n) = true
core (outs_from a n) = true

abbrev pub everything : Command → Bool
everything c = true

pub record Plain : Type 0 where
  pub program : List Instr
  pub ins : List ℕ
  pub now : ℕ
  pub breaks : List Break
  pub next : ℕ

pub record Turn : Type 0 where
  pub reply : ℕ
  pub shows : List (List ℕ)
  pub next : Plain

abbrev pub at_time : Plain → ℕ → State
at_time w t = state_at w.program w.ins t

abbrev pub test_holds : State → Test → Bool
test_holds s t = compared t.sign (pick (t.kind == 0) (reg s t.which) (word_at s.words t.which)) t.value

-- after a step from one state to another
abbrev pub holds : State → State → Break → Bool
holds old new b =
    every (eqb new.at) b.place && (every (test_holds new) b.tests && every (λ a. not (word_at old.words a == word_at new.words a)) b.changed)

-- at a time after the first
abbrev pub holds_at : Plain → List Break → ℕ → Bool
holds_at w bs t = any (holds (at_time w (t - 1)) (at_time w t)) bs

-- on, till something holds, nothing goes on, or there were so many
unfoldable pub on_till : Plain → List Break → ℕ → ℕ → ℕ
on_till w bs t zero = t
on_till w bs t (suc n) = pick (goes_on w.program w.ins t) (pick (holds_at w bs (suc t)) (suc t) (on_till w bs (suc t) n)) t

-- back, till something holds, the beginning, or there were so many
unfoldable pub back_till : Plain → List Break → ℕ → ℕ → ℕ
back_till w bs zero n = zero
back_till w bs (suc t) zero = suc t
back_till w bs (suc t) (suc n) = pick (t == 0) 0 (pick (holds_at w bs t) t (back_till w bs t n))

-- the last time, not after one, right after a step that changed a word
abbrev pub changes_at : Plain → ℕ → ℕ → Bool
changes_at w a t = not (word_at (at_time w (t - 1)).words a == word_at (at_time w t).words a)

unfoldable pub last_change : Plain → ℕ → ℕ → List ℕ
last_change w a zero = []
last_change w a (suc t) = pick (changes_at w a (suc t)) (suc t ∷ []) (last_change w a t)

abbrev pub no : ℕ → Plain → Turn
no k w = record { reply = k; shows = []; next = w }

abbrev pub yes_with : List (List ℕ) → Plain → Turn
yes_with ss w = record { reply = 0; shows = ss; next = w }

abbrev pub moved : Plain → ℕ → Plain
moved w t = record { program = w.program; ins = w.ins; now = t; breaks = w.breaks; next = w.next }

abbrev pub moved_turn : Plain → ℕ → Turn
moved_turn w t = yes_with (eight t ∷ []) (moved w t)

unfoldable pub changer_turn : Plain → List ℕ → Turn
changer_turn w [] = no 3 w
changer_turn w (t ∷ ts) = moved_turn w t

-- why it doesn't go on from here: 0 it does, 1 it has halted, 2 it waits for something to come in, 10 and more it's wrong
unfoldable pub status_number : Status → ℕ
status_number running = 0
status_number halted = 1
status_number (wrong k) = 10 + k
status_number waiting = 2

unfoldable pub words_shown : List Word → ℕ → ℕ → List ℕ
words_shown ws a zero = []
words_shown ws a (suc n) = pick (nat_lt a 65536) (eight (word_at ws a) ++ words_shown ws (suc a) n) []

unfoldable pub turn : Plain → Command → Turn
turn w (load is) = yes_with [] (record { program = is; ins = []; now = 0; breaks = []; next = 1 })
turn w (give vs) = pick (nat_lt 65536 (length w.ins + length vs)) (no 7 w) (yes_with [] (record { program = w.program; ins = w.ins ++ vs; now = w.now; breaks = w.breaks; next = w.next }))
turn w (forward n) = moved_turn w (on_till w [] w.now n)
turn w (back n) = moved_turn w (w.now - n)
turn w (run n) = moved_turn w (on_till w w.breaks w.now n)
turn w (rerun n) = moved_turn w (back_till w w.breaks w.now n)
turn w (changer a) = changer_turn w (last_change w a w.now)
turn w (add_break b) =
    pick (nat_le 64 (length w.breaks)) (no 7 w)
    (yes_with (eight w.next ∷ []) (record { program = w.program; ins = w.ins; now = w.now; breaks = w.breaks ++ record { id = w.next; place = b.place; tests = b.tests; changed = b.changed } ∷ []; next = suc w.next }))
turn w (drop_break i) =
    pick (any (λ b. eqb b.id i) w.breaks) (yes_with [] (record { program = w.program; ins = w.ins; now = w.now; breaks = those (λ b. not (b.id == i)) w.breaks; next = w.next })) (no 3 w)
turn w where_now =
    yes_with ((eight w.now ++ eight (at_time w w.now).at ++ eight (status_number (at_time w (suc w.now)).status)) ∷ []) w
turn w registers = yes_with (flat eight (at_time w w.now).regs ∷ []) w
turn w (words_from a n) = yes_with (words_shown (at_time w w.now).words a n ∷ []) w
turn w (outs_from a n) = yes_with (flat eight (take n (drop a (at_time w w.now).out)) ∷ []) w

-- how many steps the processor may be made to do for a command: those that it goes on by; going back, sixteen times as many as it goes back by, or 32
-- times if it has to be looked for, and 4,096
abbrev pub apart : ℕ → ℕ → ℕ
apart a b = larger (a - b) (b - a)

unfoldable pub may_step : Plain → Command → Turn → ℕ
may_step w (load is) t = 0
may_step w (give vs) t = 0
may_step w (forward n) t = apart w.now t.next.now
may_step w (back n) t = 4096 + 16 * apart w.now t.next.now
may_step w (run n) t = apart w.now t.next.now
may_step w (rerun n) t = 4096 + 32 * apart w.now t.next.now
may_step w (changer a) t = pick (t.reply == 0) (4096 + 32 * apart w.now t.next.now) (4096 + 8 * w.now)
may_step w (add_break b) t = 0
may_step w (drop_break i) t = 0
may_step w where_now t = 0
may_step w registers t = 0
may_step w (words_from a n) t = 0
may_step w (outs_from a n) t = 0
