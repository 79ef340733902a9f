-- Registers, words, what went out and the place stay below 2^32 at every step. Assumes nothing.
use Rattle.std.proofs.Common.{◌≡◌, ℕ, zero, suc, ◌-◌, ◌<◌, ◌≤◌, true, ◌&&◌, eqb, ltb, leb, List, [], ◌∷◌, length, get_or, drop, sym, refl, ap, ◌∙◌, subst, arith, length-drop}
use Rattle.std.proofs.lemmas.Bool.{ltb-true, lt-ltb, and_parts, eqb-true}
use Rattle.command.specs.Machine.{every, Instr, load_number, copy, reckon, read, write, jump, jump_if, call, return, take_in, put_out, halt, Word, State, Status, halted, wrong, waiting, step, one, does, reckon_done, taken_in, with_status, with_reg, with_word, gone_to, place, reg, if_word, calls, returns, compared, reckoned, instr_at, state_at, at_start, so_many, is_running, word_at, put_word, put_reg, whole}
use Rattle.command.specs.Plain.{a_word, a_reg, an_instr}
use Rattle.command.specs.Statements.{SmallState, SmallStates, SmallNumbers, WordsRight}
use Rattle.command.proofs.Picks.{pick_both, by_test}
use Rattle.command.proofs.Every.{every_at, every_append, every_take, every_drop, every_set}
use Rattle.command.proofs.Registers.{put_reg_set, put_reg_length}
use Rattle.command.proofs.SmallNumbers.{small_numbers}
use Rattle.command.proofs.WordsHold.{words_right}

abbrev Small : List ℕ → Type 0
Small vs = every (λ v. ltb v 4294967296) vs ≡ true

put_small : (rs : List ℕ) (k v : ℕ) → Small rs → v < whole → Small (put_reg rs k v)
put_small rs k v h l = rw (put_reg_set rs k v) (every_set (λ v. ltb v 4294967296) rs k v h (lt-ltb v 4294967296 l))

-- a register, also one that there isn't, which is 0
pub reg_small : (rs : List ℕ) (k : ℕ) → Small rs → get_or rs k 0 < whole
reg_small rs k h = ltb-true _ _ (every_at (λ v. ltb v 4294967296) rs k 0 h refl)

word_small : (ws : List Word) (p v : ℕ) → ((a : ℕ) → word_at ws a < whole) → v < whole → (a : ℕ) → word_at (put_word ws p v) a < whole
unfolding WordsRight
word_small ws p v h l a =
    by_test (eqb p a)
    (λ e. let s : p ≡ a = eqb-true p a e in subst (λ (b : ℕ). word_at (put_word ws p v) b < whole) s (rw (words_right ws p p v).0 l))
    (λ e. rw ((words_right ws p a v).1 e) (h a))

-- there is an instruction only within the program
pub instr_there : (is : List Instr) (k : ℕ) (i : Instr) (rest : List Instr) → instr_at is k ≡ i ∷ rest → k < length is
instr_there [] zero i rest e = let z : ◌≡◌ {A = ℕ} 0 1 = cc in omega arith
instr_there [] (suc k) i rest e = let z : ◌≡◌ {A = ℕ} 0 1 = cc in omega arith
instr_there (j ∷ is) zero i rest e = omega arith
instr_there (j ∷ is) (suc k) i rest e = let h = instr_there is k i rest e in omega arith

module _ (ins : List ℕ) (s : State) (h : SmallState ins s) where
  status_small : (t : Status) → SmallState ins (with_status s t)
  status_small t = record { sixteen = h.sixteen; regs = h.regs; words = h.words; out = h.out; place = h.place; taken = h.taken }

  gone_small : (k : ℕ) → k < whole → SmallState ins (gone_to s k)
  gone_small k l = record { sixteen = h.sixteen; regs = h.regs; words = h.words; out = h.out; place = l; taken = h.taken }

  if_small : (a : ℕ) (t : State) → (a < 65536 → SmallState ins t) → SmallState ins (if_word a s t)
  if_small a t f = pick_both (SmallState ins) (ltb a 65536) _ _ (λ e. f (ltb-true a 65536 e)) (λ _. status_small (wrong 2))

  return_small : SmallState ins (returns s)
  return_small =
      if_small (reg s 15) _
      (λ l. record { sixteen = put_reg_length s.regs 15 _ ∙ h.sixteen; regs = put_small s.regs 15 _ h.regs (omega arith); words = h.words; out = h.out; place = h.words (reg s 15); taken = h.taken })

  -- where there is an instruction, the place is within a program
  module _ (l : s.at < 4096) where
    reg_put : (k v : ℕ) → v < whole → SmallState ins (with_reg s k v)
    reg_put k v b =
        record { sixteen = put_reg_length s.regs k v ∙ h.sixteen; regs = put_small s.regs k v h.regs b; words = h.words; out = h.out; place = omega arith; taken = h.taken }

    word_put : (a v : ℕ) → v < whole → SmallState ins (with_word s a v)
    word_put a v b =
        record { sixteen = h.sixteen; regs = h.regs; words = word_small s.words a v h.words b; out = h.out; place = omega arith; taken = h.taken }

    reckon_small : (k : ℕ) (vs : List ℕ) → Small vs → SmallState ins (reckon_done s k vs)
    unfolding reckon_done
    reckon_small k [] e = status_small (wrong 3)
    reckon_small k (v ∷ vs) e = reg_put k v (ltb-true _ _ (and_parts (ltb v 4294967296) _ e).0)

    taken_small : (k : ℕ) (vs : List ℕ) → drop s.taken ins ≡ vs → Small vs → SmallState ins (taken_in s k vs)
    unfolding taken_in
    taken_small k [] e b = status_small waiting
    taken_small k (v ∷ vs) e b =
        let long : length ins - s.taken ≡ suc (length vs) = sym (length-drop s.taken ins) ∙ ap length e in
        record {
          sixteen = put_reg_length s.regs k v ∙ h.sixteen;
          regs = put_small s.regs k v h.regs (ltb-true _ _ (and_parts (ltb v 4294967296) _ b).0);
          words = h.words;
          out = h.out;
          place = omega arith;
          taken = omega arith;
        }

    call_small : (k : ℕ) → k < 65536 → SmallState ins (calls s k)
    call_small k b =
        pick_both (SmallState ins) (leb 1 (reg s 15)) _ _
        (λ _. if_small (reg s 15 - 1) _
        (λ a. record { sixteen = put_reg_length s.regs 15 _ ∙ h.sixteen; regs = put_small s.regs 15 _ h.regs (omega arith); words = word_small s.words _ _ h.words (omega arith); out = h.out; place = omega arith; taken = h.taken }))
        (λ _. status_small (wrong 2))

    does_small : (i : Instr) → an_instr i ≡ true → every a_word ins ≡ true → SmallState ins (does s ins i)
    unfolding does an_instr SmallNumbers
    does_small (load_number k n) e f = reg_put k n (ltb-true _ _ (and_parts (a_reg k) (a_word n) e).1)
    does_small (copy k j) e f = reg_put k (reg s j) (reg_small s.regs j h.regs)
    does_small (reckon o k j) e f =
        reckon_small k (reckoned o (reg s k) (reg s j)) (small_numbers o (reg s k) (reg s j) (reg_small s.regs k h.regs) (reg_small s.regs j h.regs))
    does_small (read k b n) e f = if_small (place s b n) _ (λ _. reg_put k _ (h.words (place s b n)))
    does_small (write k b n) e f = if_small (place s b n) _ (λ _. word_put (place s b n) (reg s k) (reg_small s.regs k h.regs))
    does_small (jump k) e f = gone_small k (omega (arith, ltb-true k 65536 e))
    does_small (jump_if c k j n) e f =
        let b : ltb n 65536 ≡ true = (and_parts (a_reg j) (ltb n 65536) (and_parts (ltb c 4 && a_reg k) _ e).1).1 in
        gone_small _ (pick_both (λ (m : ℕ). m < whole) (compared c (reg s k) (reg s j)) _ _ (λ _. omega (arith, ltb-true n 65536 b)) (λ _. omega arith))
    does_small (call k) e f = call_small k (ltb-true k 65536 e)
    does_small return e f = return_small
    does_small (take_in k) e f = taken_small k (drop s.taken ins) refl (every_drop a_word s.taken ins f)
    does_small (put_out k) e f =
        record { sixteen = h.sixteen; regs = h.regs; words = h.words; out = every_append (λ v. ltb v 4294967296) s.out (reg s k ∷ []) h.out (simp (lt-ltb (reg s k) 4294967296 (reg_small s.regs k h.regs))); place = omega arith; taken = h.taken }
    does_small halt e f = status_small halted

-- what has been made of a state that is small, by a program and with an input that fit
module _ (is : List Instr) (ins : List ℕ) (few : length is ≤ 4096) (fit : every an_instr is ≡ true) (words : every a_word ins ≡ true) where
  one_small : (s : State) → SmallState ins s → (js : List Instr) → instr_at is s.at ≡ js → every an_instr js ≡ true → SmallState ins (one s ins js)
  unfolding one
  one_small s h [] e f = status_small ins s h (wrong 1)
  one_small s h (i ∷ js) e f =
      let l = instr_there is s.at i js e in
      does_small ins s h (omega arith) i (and_parts (an_instr i) (every an_instr js) f).0 words

  pub step_small : (s : State) → SmallState ins s → SmallState ins (step is ins s)
  step_small s h =
      pick_both (SmallState ins) (is_running s.status) _ _
      (λ _. one_small s h (instr_at is s.at) refl (every_take an_instr 1 (drop s.at is) (every_drop an_instr s.at is fit)))
      (λ _. h)

pub start_small : (ins : List ℕ) → SmallState ins at_start
unfolding so_many word_at
start_small ins = record { sixteen = refl; regs = refl; words = λ a. omega arith; out = refl; place = omega arith; taken = omega arith }

pub small_states : SmallStates
unfolding SmallStates state_at
small_states is ins zero few fit words = start_small ins
small_states is ins (suc t) few fit words = step_small is ins few fit words (state_at is ins t) (small_states is ins t few fit words)
