-- Registers: setting one is setting a list at a place, and there are sixteen at every time, whatever the program. Assumes nothing.
use Rattle.std.proofs.Common.{◌≡◌, ℕ, zero, suc, ◌-◌, ltb, leb, List, [], ◌∷◌, length, drop, set, refl, ap, ◌∙◌, length-set}
use Rattle.command.specs.Machine.{Instr, load_number, copy, reckon, read, write, jump, jump_if, call, return, take_in, put_out, halt, State, put_reg, step, one, does, reckon_done, taken_in, place, reg, if_word, reckoned, instr_at, state_at, is_running, so_many}
use Rattle.command.proofs.Picks.{pick_both}

pub put_reg_set : (rs : List ℕ) (k v : ℕ) → put_reg rs k v ≡ set rs k v
unfolding put_reg
put_reg_set [] k v = refl
put_reg_set (r ∷ rs) zero v = refl
put_reg_set (r ∷ rs) (suc k) v = ap (λ (l : List ℕ). r ∷ l) (put_reg_set rs k v)

pub put_reg_length : (rs : List ℕ) (k v : ℕ) → length (put_reg rs k v) ≡ length rs
put_reg_length rs k v = rw (put_reg_set rs k v, length-set rs k v)

-- as many registers as before
abbrev AsMany : State → State → Type 0
AsMany s t = length t.regs ≡ length s.regs

module _ (s : State) where
  if_many : (a : ℕ) (t : State) → AsMany s t → AsMany s (if_word a s t)
  if_many a t g = pick_both (AsMany s) (ltb a 65536) _ _ (λ _. g) (λ _. refl)

  reckon_many : (k : ℕ) (vs : List ℕ) → AsMany s (reckon_done s k vs)
  unfolding reckon_done
  reckon_many k [] = refl
  reckon_many k (v ∷ vs) = put_reg_length s.regs k v

  taken_many : (k : ℕ) (vs : List ℕ) → AsMany s (taken_in s k vs)
  unfolding taken_in
  taken_many k [] = refl
  taken_many k (v ∷ vs) = put_reg_length s.regs k v

  does_many : (ins : List ℕ) (i : Instr) → AsMany s (does s ins i)
  unfolding does
  does_many ins (load_number k n) = put_reg_length s.regs k n
  does_many ins (copy k j) = put_reg_length s.regs k _
  does_many ins (reckon o k j) = reckon_many k (reckoned o (reg s k) (reg s j))
  does_many ins (read k b n) = if_many (place s b n) _ (put_reg_length s.regs k _)
  does_many ins (write k b n) = if_many (place s b n) _ refl
  does_many ins (jump k) = refl
  does_many ins (jump_if c k j n) = refl
  does_many ins (call k) = pick_both (AsMany s) (leb 1 (reg s 15)) _ _ (λ _. if_many (reg s 15 - 1) _ (put_reg_length s.regs 15 _)) (λ _. refl)
  does_many ins return = if_many (reg s 15) _ (put_reg_length s.regs 15 _)
  does_many ins (take_in k) = taken_many k (drop s.taken ins)
  does_many ins (put_out k) = refl
  does_many ins halt = refl

  one_many : (ins : List ℕ) (is : List Instr) → AsMany s (one s ins is)
  unfolding one
  one_many ins [] = refl
  one_many ins (i ∷ is) = does_many ins i

  step_many : (is : List Instr) (ins : List ℕ) → AsMany s (step is ins s)
  step_many is ins = pick_both (AsMany s) (is_running s.status) _ _ (λ _. one_many ins (instr_at is s.at)) (λ _. refl)

pub sixteen : (is : List Instr) (ins : List ℕ) (t : ℕ) → length (state_at is ins t).regs ≡ 16
unfolding state_at so_many
sixteen is ins zero = refl
sixteen is ins (suc t) = step_many (state_at is ins t) is ins ∙ sixteen is ins t
