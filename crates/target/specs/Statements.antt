-- What is promised of going on. Each is a statement; a function of src/statements.rt has it as its contract. Assumes nothing.
use Rattle.std.specs.Prelude.{◌≡◌, ℕ, ◌+◌, true, List, []}
use Rattle.command.specs.Machine.{Instr, State, state_at, at_start, is_running}
use Rattle.target.specs.Run.{going}

-- Two goings make one: the past can be cut anywhere.
unfoldable pub GoingOn : Type 0
GoingOn =
    (is : List Instr) (ins : List ℕ) (n m : ℕ) (s : State) (k : ℕ) → (going n is ins [] s k).why ≡ 0 →
    going (n + m) is ins [] s k ≡ going m is ins [] (going n is ins [] s k).state (going n is ins [] s k).by

-- Going from the beginning comes to the state at that time.
unfoldable pub GoingThere : Type 0
GoingThere =
    (is : List Instr) (ins : List ℕ) (n : ℕ) → is_running (state_at is ins n).status ≡ true →
    ((going n is ins [] at_start 0).state ≡ state_at is ins n) × ((going n is ins [] at_start 0).by ≡ n)
