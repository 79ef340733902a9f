-- The slots of a processor, each seen only by the time of the state in it; what the processor is told; and that a list of it can be carried out. Assumes
-- nothing.
use Rattle.std.specs.Prelude.{◌≡◌, ℕ, zero, suc, ◌+◌, ◌<◌, ◌≤◌, cond, List, [], ◌∷◌, ◌==◌, Option, None, Some}
use Rattle.checkpoints.specs.Numbers.{slots}

-- slot to time: none for a slot that nothing was kept in
abbrev pub Table : Type 0
Table = ℕ → Option ℕ

unfoldable pub put : Table → ℕ → ℕ → Table
put T k x j = cond (j == k) (Some x) (T j)

pub data Act : Type 0 where
  -- take up the slot, in which the state at that time is expected
  take : ℕ → ℕ → Act
  -- go on by so many steps
  go : ℕ → Act
  -- keep the state in the slot
  keep : ℕ → Act

-- With that table, at that time, after so many steps, the acts can be carried out: each slot kept into is one of the slots, each taken up has the time that
-- is expected, and it goes no further than far. What then holds of table, time and steps is Q.
unfoldable pub Runs : ℕ → List Act → Table → ℕ → ℕ → (Table → ℕ → ℕ → Type 0) → Type 0
Runs far [] T a c Q = Q T a c
Runs far (take k x ∷ rest) T a c Q = (T k ≡ Some x) × Runs far rest T x c Q
Runs far (go n ∷ rest) T a c Q = (a + n ≤ far) × Runs far rest T (a + n) (c + n) Q
Runs far (keep k ∷ rest) T a c Q = (k < slots) × Runs far rest (put T k a) a c Q

-- each slot that a plan keeps into or takes up is one of the slots
unfoldable pub Few : List Act → Type 0
Few [] = Unit
Few (take k x ∷ rest) = (k < slots) × Few rest
Few (go n ∷ rest) = Few rest
Few (keep k ∷ rest) = (k < slots) × Few rest

-- act number i of a plan
unfoldable pub act_at : List Act → ℕ → Option Act
act_at [] i = None
act_at (x ∷ rest) zero = Some x
act_at (x ∷ rest) (suc i) = act_at rest i
