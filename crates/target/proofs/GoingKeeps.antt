-- What each step that is done keeps, going on keeps: so it runs still, what went out stays out, and numbers stay small. Assumes nothing.
use Rattle.std.proofs.Common.{◌≡◌, ℕ, zero, suc, ◌≤◌, true, List, length, take}
use Rattle.command.specs.Machine.{any, every, Instr, State, is_running, step}
use Rattle.command.specs.Plain.{Break, holds, a_word, an_instr}
use Rattle.command.specs.Statements.{SmallState}
use Rattle.command.proofs.Picks.{pick_both}
use Rattle.command.proofs.OutsGrow.{Outs, grown_none, grown_then, grown_front, step_outs}
use Rattle.command.proofs.SmallStates.{step_small}
use Rattle.target.specs.Run.{going, Came}

module _ (is : List Instr) (ins : List ℕ) (bs : List Break) where
  pub going_keeps : (P : State → Type 0) → ((s : State) → is_running (step is ins s).status ≡ true → P s → P (step is ins s)) → (n : ℕ) (s : State) (k : ℕ) → P s →
      P (going n is ins bs s k).state
  unfolding going
  going_keeps P f zero s k h = h
  going_keeps P f (suc n) s k h =
      pick_both (λ (c : Came). P c.state) (is_running (step is ins s).status) _ _
      (λ r. pick_both (λ (c : Came). P c.state) (any (holds s (step is ins s)) bs) _ _ (λ _. f s r h) (λ _. going_keeps P f n (step is ins s) (suc k) (f s r h)))
      (λ _. h)

  pub going_runs : (n : ℕ) (s : State) (k : ℕ) → is_running s.status ≡ true → is_running (going n is ins bs s k).state.status ≡ true
  going_runs n s k h = going_keeps (λ (t : State). is_running t.status ≡ true) (λ t r _. r) n s k h

  pub going_outs : (n : ℕ) (s : State) (k : ℕ) → Outs s (going n is ins bs s k).state
  going_outs n s k = going_keeps (Outs s) (λ t _ g. grown_then s.out t.out _ g (step_outs t is ins)) n s k (grown_none s.out)

  pub going_front : (n : ℕ) (s : State) (k : ℕ) → take (length s.out) (going n is ins bs s k).state.out ≡ s.out
  going_front n s k = grown_front s.out _ (going_outs n s k)

  pub going_small : length is ≤ 4096 → every an_instr is ≡ true → every a_word ins ≡ true → (n : ℕ) (s : State) (k : ℕ) → SmallState ins s →
      SmallState ins (going n is ins bs s k).state
  going_small few fit words n s k h = going_keeps (SmallState ins) (λ t _ g. step_small is ins few fit words t g) n s k h
