-- Events by their phases: what is answered in each, and what is refused.
use Rattle.std.proofs.Common.{◌≡◌, ℕ, ◌<◌, Bool, eqb, List, arith}
use Rattle.std.proofs.lemmas.Bool.Decides.{nat_tests}
use Rattle.machine.specs.Engine.{on_came, on_saw, on_next}
use Rattle.machine.specs.Phases.{phase_number, phase_of}

-- a cell's number, or that of its phase: where a number that is no phase's is refused, that's the same
same_phase : (n k : ℕ) → 0 < k → k < 7 → eqb (phase_number (phase_of n)) k ≡ eqb n k
same_phase n k l h = grind (arith, nat_tests)

module _ (n : ℕ) where
  pub came_same : (m : List ℕ) (by : ℕ) (hit : Bool) (why : ℕ) → on_came (phase_number (phase_of n)) m by hit why ≡ on_came n m by hit why
  unfolding on_came
  came_same m by hit why = rw (same_phase n 3 (omega arith) (omega arith))

  pub saw_same : (m xs : List ℕ) → on_saw (phase_number (phase_of n)) m xs ≡ on_saw n m xs
  unfolding on_saw
  saw_same m xs = rw (same_phase n 5 (omega arith) (omega arith), same_phase n 6 (omega arith) (omega arith))

  pub next_same : (m : List ℕ) → on_next (phase_number (phase_of n)) m ≡ on_next n m
  unfolding on_next
  next_same m = rw (same_phase n 1 (omega arith) (omega arith), same_phase n 2 (omega arith) (omega arith), same_phase n 4 (omega arith) (omega arith))
