-- What the plain debugger answers, command by command. Assumes nothing.
use Rattle.std.proofs.Common.{◌≡◌, ℕ, suc, ◌+◌, ◌-◌, ◌<◌, ◌≤◌, true, false, not, eqb, ltb, List, [], ◌∷◌, ◌++◌, length, take, drop, Some, None, Ok, Err, Vec, vec_items, sym, refl, ap, ◌∙◌, subst, append_assoc, append-nil, arith}
use Rattle.std.specs.Result.{is_ok}
use Rattle.std.specs.declared.alloc.Global.{Global}
use Rattle.command.specs.Machine.{Instr, eight, flat, any, those}
use Rattle.command.specs.Plain.{Plain, Break, Command, Turn as Ended, load, give, forward, back, run, rerun, changer, add_break, drop_break, where_now, registers, words_from, outs_from, turn, no, yes_with, moved, moved_turn, changer_turn, last_change, on_till, back_till, apart, at_time, status_number, words_shown, may_step}
use Rattle.command.proofs.Picks.{by_test}
use Rattle.std.proofs.lemmas.Bool.{ltb-true, ltb-false, lt-ltb, le-ltb, le-leb, lt-leb}
use Rattle.command.proofs.PastStays.{given}
use Rattle.trial.specs.declared.debugger.Trial.{Trial}
use Rattle.trial.specs.declared.turns.Refusal.{Refusal}
use Rattle.trial.specs.declared.turns.Refusal.TheVariants.{NoCommand, NoSuch, Full}
use Rattle.trial.specs.Kept.{Kept}
use Rattle.trial.specs.Turns.{refusal_number, Answer, reply_of, rows_of, Answers}

pub one_row : (n : ℕ) → flat eight (n ∷ []) ≡ eight n
one_row n = append-nil (eight n)

three_rows : (a b c : ℕ) → eight a ++ eight b ++ eight c ≡ flat eight (a ∷ b ∷ c ∷ [])
three_rows a b c = append_assoc (eight a) (eight b) (eight c) ∙ ap (λ z. eight a ++ (eight b ++ z)) (sym (append-nil (eight c)))

module _ (e : Trial) (w : Plain) (c : Command) where
  -- it ended so, and the debugger is then that
  answered : (a : Answer) (z : Ended) → turn w c ≡ z → reply_of a ≡ z.reply → rows_of a ≡ z.shows → Kept e z.next → Answers a e w c
  answered a z q r s k =
      record {
        reply = r ∙ ap (λ x. x.reply) (sym q);
        shows = s ∙ ap (λ x. x.shows) (sym q);
        kept = subst (λ x. Kept e x.next) (sym q) k;
      }

  pub done_as : (a : Answer) (z : Plain) → a ≡ Ok None → turn w c ≡ yes_with [] z → Kept e z → Answers a e w c
  done_as a z f q k = answered a (yes_with [] z) q (ap reply_of f) (ap rows_of f) k

  pub refused_with : (a : Answer) (r : Refusal) → a ≡ Err r → turn w c ≡ no (refusal_number r) w → Kept e w → Answers a e w c
  refused_with a r f q k = answered a (no (refusal_number r) w) q (ap reply_of f) (ap rows_of f) k

  pub shown_as : (v : Vec ℕ Global) (row : List ℕ) (z : Plain) → turn w c ≡ yes_with (row ∷ []) z → flat eight (vec_items v) ≡ row → Kept e z → Answers (Ok (Some v)) e w c
  shown_as v row z q s k = answered (Ok (Some v)) (yes_with (row ∷ []) z) q refl (ap (λ x. x ∷ []) s) k

  pub moved_there : (v : Vec ℕ Global) (u : ℕ) → turn w c ≡ moved_turn w u → vec_items v ≡ e.now ∷ [] → Kept e (moved w u) → Answers (Ok (Some v)) e w c
  moved_there v u q s k = shown_as v (eight u) (moved w u) q (ap (flat eight) s ∙ one_row e.now ∙ ap eight (sym k.time)) k

-- 0 says that it is done
pub told_done : (a : Answer) → eqb (reply_of a) 0 ≡ is_ok a
told_done (Ok v) = refl
told_done (Err NoCommand) = refl
told_done (Err NoSuch) = refl
told_done (Err Full) = refl

module _ (w : Plain) where
  pub turn_forward : (n : ℕ) → turn w (forward n) ≡ moved_turn w (on_till w [] w.now n)
  unfolding turn
  turn_forward n = refl

  pub turn_back : (n : ℕ) → turn w (back n) ≡ moved_turn w (w.now - n)
  unfolding turn
  turn_back n = refl

  pub turn_run : (n : ℕ) → turn w (run n) ≡ moved_turn w (on_till w w.breaks w.now n)
  unfolding turn
  turn_run n = refl

  pub turn_rerun : (n : ℕ) → turn w (rerun n) ≡ moved_turn w (back_till w w.breaks w.now n)
  unfolding turn
  turn_rerun n = refl

  pub turn_changer : (a u : ℕ) → last_change w a w.now ≡ u ∷ [] → turn w (changer a) ≡ moved_turn w u
  unfolding turn changer_turn
  turn_changer a u e = rw e refl

  pub turn_none : (a : ℕ) → last_change w a w.now ≡ [] → turn w (changer a) ≡ no 3 w
  unfolding turn changer_turn
  turn_none a e = rw e refl

  pub turn_where : turn w where_now ≡ yes_with (flat eight (w.now ∷ (at_time w w.now).at ∷ status_number (at_time w (suc w.now)).status ∷ []) ∷ []) w
  unfolding turn
  turn_where = ap (λ x. yes_with (x ∷ []) w) (three_rows w.now (at_time w w.now).at (status_number (at_time w (suc w.now)).status))

  pub turn_registers : turn w registers ≡ yes_with (flat eight (at_time w w.now).regs ∷ []) w
  unfolding turn
  turn_registers = refl

  pub turn_words : (a n : ℕ) → turn w (words_from a n) ≡ yes_with (words_shown (at_time w w.now).words a n ∷ []) w
  unfolding turn
  turn_words a n = refl

  pub turn_outs : (a n : ℕ) → turn w (outs_from a n) ≡ yes_with (flat eight (take n (drop a (at_time w w.now).out)) ∷ []) w
  unfolding turn
  turn_outs a n = refl

pub apart_is : (a b : ℕ) → a - b + (b - a) ≡ apart a b
apart_is a b = by_test (ltb (a - b) (b - a)) (λ q. let l : a - b < b - a = ltb-true (a - b) (b - a) q in rw q (omega arith)) (λ q. let l : b - a ≤ a - b = ltb-false (a - b) (b - a) q in rw q (omega arith))

module _ (w : Plain) (vs : List ℕ) where
  pub turn_give_no : 65536 < length w.ins + length vs → turn w (give vs) ≡ no 7 w
  unfolding turn
  turn_give_no h = rw (lt-ltb _ _ h) refl

  pub turn_give : length w.ins + length vs ≤ 65536 → turn w (give vs) ≡ yes_with [] (given w vs)
  unfolding turn
  turn_give h = rw (le-ltb _ _ h) refl

  pub give_free : (z : Ended) → may_step w (give vs) z ≡ 0
  unfolding may_step
  give_free z = refl

pub turn_load : (w : Plain) (is : List Instr) → turn w (load is) ≡ yes_with [] (record { program = is; ins = []; now = 0; breaks = []; next = 1 })
unfolding turn
turn_load w is = refl

pub load_free : (w : Plain) (is : List Instr) (z : Ended) → may_step w (load is) z ≡ 0
unfolding may_step
load_free w is z = refl

module _ (w : Plain) (b : Break) where
  pub turn_break_no : 64 ≤ length w.breaks → turn w (add_break b) ≡ no 7 w
  unfolding turn
  turn_break_no h = rw (le-leb _ _ h) refl

  pub turn_break : length w.breaks < 64 → turn w (add_break b)
      ≡ yes_with (eight w.next ∷ []) (record { program = w.program; ins = w.ins; now = w.now; breaks = w.breaks ++ record { id = w.next; place = b.place; tests = b.tests; changed = b.changed } ∷ []; next = suc w.next })
  unfolding turn
  turn_break h = rw (lt-leb _ _ h) refl

module _ (w : Plain) (i : ℕ) where
  pub turn_drop_no : any (λ b. eqb b.id i) w.breaks ≡ false → turn w (drop_break i) ≡ no 3 w
  unfolding turn
  turn_drop_no h = rw h refl

  pub turn_drop : any (λ b. eqb b.id i) w.breaks ≡ true → turn w (drop_break i)
      ≡ yes_with [] (record { program = w.program; ins = w.ins; now = w.now; breaks = those (λ b. not (eqb b.id i)) w.breaks; next = w.next })
  unfolding turn
  turn_drop h = rw h refl
