-- What is kept at a time: the invariant of the checkpoints. Assumes nothing.
use Rattle.std.specs.Prelude.{◌≡◌, ℕ, zero, suc, ◌+◌, ◌-◌, ◌*◌, ◌/◌, ◌%◌, ◌≤◌, List, [], ◌∷◌, Some}
use Rattle.checkpoints.specs.Numbers.{stride, fan, level_slots}
use Rattle.checkpoints.specs.Slots.{Table}
use Rattle.checkpoints.specs.Policy.{time, slot, Spot, spot}

-- points 0 to n of block q are kept
abbrev pub Points : ℕ → ℕ → Table → ℕ → ℕ → Type 0
Points v g T q n = (i : ℕ) → i ≤ n → T (slot v q i) ≡ Some (time g q i)

-- of block p points 0 to k are kept, and the next one is short by gap, at most past
pub record Built (v g : ℕ) (T : Table) (p k past gap : ℕ) : Type 0 where
  pub points : Points v g T p k
  pub next : T (slot v p (suc k)) ≡ Some (time g p (suc k) - gap)
  pub near : gap ≤ past

-- the block below is built as far as left says: the fewer points are kept in the block itself, the more in the one below
unfoldable pub Below : ℕ → ℕ → Table → ℕ → ℕ → ℕ → ℕ → Type 0
Below v g T zero k past gap = Unit
Below v g T (suc p) k past gap = Built v g T p k past gap

pub record Level (v g : ℕ) (T : Table) (x : Spot) (gap : ℕ) : Type 0 where
  pub main : Points v g T x.block x.point
  pub below : Below v g T x.block x.left x.past gap

-- the levels from v on, at the time n * g + r
unfoldable pub Levels : ℕ → ℕ → Table → ℕ → ℕ → List ℕ → Type 0
Levels v g T n r [] = (i : ℕ) → i ≤ n → T (level_slots * v + i) ≡ Some (i * g)
Levels v g T n r (s ∷ ss) = Level v g T (spot n r) s × Levels (suc v) (fan * g) T (n / fan) (n % fan * g + r) ss

unfoldable pub Ready : Table → ℕ → List ℕ → Type 0
Ready T t ss = Levels 0 stride T (t / stride) (t % stride) ss
