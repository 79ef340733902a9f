-- More to come in changes nothing of what was. Assumes nothing.
use Rattle.std.proofs.Common.{◌≡◌, ℕ, zero, suc, true, List, [], ◌∷◌, ◌++◌, drop, refl, ap, ◌∙◌}
use Rattle.std.proofs.lemmas.Bool.{false≢true}
use Rattle.command.specs.Machine.{Instr, load_number, copy, reckon, read, write, jump, jump_if, call, return, take_in, put_out, halt, State, is_running, step, one, does, taken_in, instr_at, state_at}
use Rattle.command.specs.Statements.{PastSame}
use Rattle.command.proofs.Running.{ran_before}

-- what is there still to come in stays first
pub drop_first : {A : Type 0} (n : ℕ) (xs ys vs : List A) (v : A) → drop n xs ≡ v ∷ vs → drop n (xs ++ ys) ≡ v ∷ (vs ++ ys)
drop_first zero xs ys vs v e = ap (λ zs. zs ++ ys) e
drop_first (suc n) [] ys vs v e = cc
drop_first (suc n) (x ∷ xs) ys vs v e = drop_first n xs ys vs v e

module _ (s : State) (ins more : List ℕ) where
  takes_same : (k : ℕ) (rest : List ℕ) → drop s.taken ins ≡ rest → is_running (taken_in s k rest).status ≡ true →
      taken_in s k (drop s.taken (ins ++ more)) ≡ taken_in s k rest
  unfolding taken_in is_running
  takes_same k [] e h = absurd (false≢true h)
  takes_same k (v ∷ vs) e h = rw (drop_first s.taken ins more vs v e)

  does_same : (i : Instr) → is_running (does s ins i).status ≡ true → does s (ins ++ more) i ≡ does s ins i
  unfolding does
  does_same (load_number k n) h = refl
  does_same (copy k j) h = refl
  does_same (reckon o k j) h = refl
  does_same (read k b n) h = refl
  does_same (write k b n) h = refl
  does_same (jump k) h = refl
  does_same (jump_if c k j n) h = refl
  does_same (call k) h = refl
  does_same return h = refl
  does_same (take_in k) h = takes_same k (drop s.taken ins) refl h
  does_same (put_out k) h = refl
  does_same halt h = refl

  one_same : (is : List Instr) → is_running (one s ins is).status ≡ true → one s (ins ++ more) is ≡ one s ins is
  unfolding one
  one_same [] h = refl
  one_same (i ∷ is) h = does_same i h

  -- a step that is done with what has come in is the same with more
  pub step_same : (is : List Instr) → is_running (step is ins s).status ≡ true → step is (ins ++ more) s ≡ step is ins s
  step_same is h =
      let r : is_running s.status ≡ true = ran_before is ins s h in
      simp r (one_same (instr_at is s.at) (simp r at h))

pub past_same : PastSame
unfolding PastSame state_at
past_same is ins more zero h = refl
past_same is ins more (suc n) h =
    let before = past_same is ins more n (ran_before is ins (state_at is ins n) h) in
    ap (step is (ins ++ more)) before ∙ step_same (state_at is ins n) ins more is h
