-- The states at successive times: how they are cut, and that only running ones are left behind. Assumes nothing.
use Rattle.std.proofs.Common.{◌≡◌, ℕ, zero, suc, ◌+◌, ◌≤◌, true, false, List, sym, refl, ap, add-zero, add-suc, arith}
use Rattle.std.proofs.lemmas.Bool.{false≢true}
use Rattle.command.specs.Machine.{Instr, State, Status, running, halted, wrong, waiting, is_running, step, state_at}
use Rattle.command.specs.Plain.{status_number}
use Rattle.command.proofs.Picks.{by_test}
use Rattle.command.proofs.Ranges.{at_or_before}

-- so many steps from a state
unfoldable pub after : List Instr → List ℕ → ℕ → State → State
after is ins zero s = s
after is ins (suc n) s = step is ins (after is ins n s)

-- the state at n + m is what m steps make of the state at n
pub state_at_sum : (is : List Instr) (ins : List ℕ) (n m : ℕ) → state_at is ins (n + m) ≡ after is ins m (state_at is ins n)
unfolding after state_at
state_at_sum is ins n zero = rw add-zero
state_at_sum is ins n (suc m) = rw add-suc (ap (step is ins) (state_at_sum is ins n m))

-- a state that doesn't run stays
pub stopped_stays : (is : List Instr) (ins : List ℕ) (s : State) → is_running s.status ≡ false → step is ins s ≡ s
stopped_stays is ins s e = simp e

-- what runs after a step ran before it
pub ran_before : (is : List Instr) (ins : List ℕ) (s : State) → is_running (step is ins s).status ≡ true → is_running s.status ≡ true
ran_before is ins s h = by_test (is_running s.status) (λ e. e) (λ e. absurd (false≢true (simp e at h)))

pub ran_at : (is : List Instr) (ins : List ℕ) (t : ℕ) → is_running (state_at is ins (suc t)).status ≡ true → is_running (state_at is ins t).status ≡ true
unfolding state_at
ran_at is ins t h = ran_before is ins (state_at is ins t) h

-- what runs at a time ran at all times before
pub ran_till : (is : List Instr) (ins : List ℕ) (t u : ℕ) → u ≤ t → is_running (state_at is ins t).status ≡ true → is_running (state_at is ins u).status ≡ true
ran_till is ins zero u p h = at_or_before (λ k. is_running (state_at is ins k).status ≡ true) zero u p h (λ q. absurd (omega arith))
ran_till is ins (suc t) u p h =
    at_or_before (λ k. is_running (state_at is ins k).status ≡ true) (suc t) u p h (λ q. ran_till is ins t u (omega arith) (ran_at is ins t h))

-- at the beginning it runs
pub runs_first : (is : List Instr) (ins : List ℕ) → is_running (state_at is ins 0).status ≡ true
unfolding state_at is_running
runs_first is ins = refl

-- whatever doesn't run has a reason, which is no 0
pub reason_not_0 : (t : Status) → is_running t ≡ false → status_number t ≡ 0 → ⊥
unfolding is_running status_number
reason_not_0 running e h = false≢true (sym e)
reason_not_0 halted e h = omega arith
reason_not_0 (wrong k) e h = omega arith
reason_not_0 waiting e h = omega arith

pub running_is_0 : (t : Status) → is_running t ≡ true → status_number t ≡ 0
unfolding is_running status_number
running_is_0 running e = refl
running_is_0 halted e = absurd (false≢true e)
running_is_0 (wrong k) e = absurd (false≢true e)
running_is_0 waiting e = absurd (false≢true e)
