-- Going on, cut anywhere, and as the times of the plain debugger have it. Assumes nothing.
use Rattle.std.proofs.Common.{◌≡◌, ℕ, zero, suc, ◌+◌, true, false, List, [], ap, add-zero, suc-add, zero-add, arith}
use Rattle.command.specs.Machine.{Instr, is_running, step, state_at}
use Rattle.target.specs.Run.{going, Came, came_to}
use Rattle.target.specs.Statements.{GoingOn, GoingThere}
use Rattle.command.proofs.Picks.{by_test}
use Rattle.command.proofs.Running.{reason_not_0, ran_till}

pub going_on : GoingOn
unfolding GoingOn going
going_on is ins zero m s k e = rw zero-add
going_on is ins (suc n) m s k e =
    rw suc-add
    (by_test (is_running (step is ins s).status)
    (λ r. simp r (going_on is ins n m (step is ins s) (suc k) (simp r at e)))
    (λ r. absurd (reason_not_0 (step is ins s).status r (simp r at e))))

shift : (a b : ℕ) → a + suc b ≡ suc a + b
shift a b = omega arith

-- from a time on, to a later one at which it runs
pub going_from : (is : List Instr) (ins : List ℕ) (t n k : ℕ) → is_running (state_at is ins (t + n)).status ≡ true →
    going n is ins [] (state_at is ins t) k ≡ came_to (state_at is ins (t + n)) (k + n) false 0
unfolding going state_at
going_from is ins t zero k h = simp add-zero
going_from is ins t (suc n) k h =
    let r : is_running (state_at is ins (suc t)).status ≡ true = ran_till is ins (t + suc n) (suc t) (omega arith) h in
    rw (shift t n, shift k n) (simp r (going_from is ins (suc t) n (suc k) (rw (shift t n) at h)))

pub going_there : GoingThere
unfolding GoingThere state_at
going_there is ins n h =
    let e = rw zero-add at (going_from is ins 0 n 0 (rw zero-add h)) in (ap (λ (c : Came). c.state) e, ap (λ (c : Came). c.by) e)
