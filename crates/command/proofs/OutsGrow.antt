-- What went out stays out: each step, and so each time after, only adds to it. Assumes nothing.
use Rattle.std.proofs.Common.{◌≡◌, ℕ, zero, suc, ◌+◌, ◌-◌, ◌≤◌, ltb, leb, List, [], ◌∷◌, ◌++◌, length, take, drop, sym, refl, ap, ◌∙◌, append_assoc, append-nil, arith}
use lib.Seq.{take-append_seam}
use Rattle.command.specs.Machine.{Instr, load_number, copy, reckon, read, write, jump, jump_if, call, return, take_in, put_out, halt, State, step, one, does, reckon_done, taken_in, place, reg, if_word, reckoned, instr_at, state_at, is_running}
use Rattle.command.specs.Statements.{OutsGrow}
use Rattle.command.proofs.Picks.{pick_both}
use Rattle.command.proofs.Running.{after, state_at_sum}

-- the one list is the beginning of the other
abbrev pub Grown : List ℕ → List ℕ → Type 0
Grown xs ys = (more : List ℕ) × (ys ≡ xs ++ more)

pub grown_none : (xs : List ℕ) → Grown xs xs
grown_none xs = ([], sym (append-nil xs))

pub grown_then : (xs ys zs : List ℕ) → Grown xs ys → Grown ys zs → Grown xs zs
grown_then xs ys zs (ms, e) (ns, f) = (ms ++ ns, f ∙ ap (λ (l : List ℕ). l ++ ns) e ∙ append_assoc xs ms ns)

-- the beginning is known by its length: whoever has what went out later needs no more to know what went out before
pub grown_front : (xs ys : List ℕ) → Grown xs ys → take (length xs) ys ≡ xs
grown_front xs ys (more, e) = ap (take (length xs)) e ∙ take-append_seam xs more

-- what went out by the one state is the beginning of what went out by the other
abbrev pub Outs : State → State → Type 0
Outs s t = Grown s.out t.out

module _ (s : State) where
  same_outs : Grown s.out s.out
  same_outs = grown_none s.out

  if_outs : (a : ℕ) (t : State) → Outs s t → Outs s (if_word a s t)
  if_outs a t g = pick_both (Outs s) (ltb a 65536) _ _ (λ _. g) (λ _. same_outs)

  reckon_outs : (k : ℕ) (vs : List ℕ) → Outs s (reckon_done s k vs)
  unfolding reckon_done
  reckon_outs k [] = same_outs
  reckon_outs k (v ∷ vs) = same_outs

  taken_outs : (k : ℕ) (vs : List ℕ) → Outs s (taken_in s k vs)
  unfolding taken_in
  taken_outs k [] = same_outs
  taken_outs k (v ∷ vs) = same_outs

  does_outs : (ins : List ℕ) (i : Instr) → Outs s (does s ins i)
  unfolding does
  does_outs ins (load_number k n) = same_outs
  does_outs ins (copy k j) = same_outs
  does_outs ins (reckon o k j) = reckon_outs k (reckoned o (reg s k) (reg s j))
  does_outs ins (read k b n) = if_outs (place s b n) _ same_outs
  does_outs ins (write k b n) = if_outs (place s b n) _ same_outs
  does_outs ins (jump k) = same_outs
  does_outs ins (jump_if c k j n) = same_outs
  does_outs ins (call k) = pick_both (Outs s) (leb 1 (reg s 15)) _ _ (λ _. if_outs (reg s 15 - 1) _ same_outs) (λ _. same_outs)
  does_outs ins return = if_outs (reg s 15) _ same_outs
  does_outs ins (take_in k) = taken_outs k (drop s.taken ins)
  does_outs ins (put_out k) = (reg s k ∷ [], refl)
  does_outs ins halt = same_outs

  one_outs : (ins : List ℕ) (is : List Instr) → Outs s (one s ins is)
  unfolding one
  one_outs ins [] = same_outs
  one_outs ins (i ∷ is) = does_outs ins i

  pub step_outs : (is : List Instr) (ins : List ℕ) → Outs s (step is ins s)
  step_outs is ins = pick_both (Outs s) (is_running s.status) _ _ (λ _. one_outs ins (instr_at is s.at)) (λ _. same_outs)

pub after_outs : (is : List Instr) (ins : List ℕ) (n : ℕ) (s : State) → Outs s (after is ins n s)
unfolding after
after_outs is ins zero s = grown_none s.out
after_outs is ins (suc n) s =
    grown_then s.out (after is ins n s).out _ (after_outs is ins n s) (step_outs (after is ins n s) is ins)

pub outs_grow : OutsGrow
unfolding OutsGrow
outs_grow is ins u t h =
    let e : u + (t - u) ≡ t = omega arith in
    let p : state_at is ins t ≡ after is ins (t - u) (state_at is ins u) = ap (state_at is ins) (sym e) ∙ state_at_sum is ins u (t - u) in
    let g = after_outs is ins (t - u) (state_at is ins u) in
    (g.0, ap (λ (s : State). s.out) p ∙ g.1)

pub outs_front : (is : List Instr) (ins : List ℕ) (u t : ℕ) → u ≤ t → take (length (state_at is ins u).out) (state_at is ins t).out ≡ (state_at is ins u).out
unfolding OutsGrow
outs_front is ins u t h = grown_front _ _ (outs_grow is ins u t h)
