-- The acts of beginning and of arriving by their numbers, and the gaps that become 0, as code computes them. Assumes nothing.
use Rattle.std.specs.Prelude.{ℕ, zero, suc, ◌+◌, ◌-◌, ◌*◌, ◌/◌, ◌%◌, ◌<◌, cond, Some, None, Option, nat_le}
use Rattle.checkpoints.specs.Numbers.{fan, levels, level_slots, top_points, slots}
use Rattle.checkpoints.specs.Slots.{Act, keep}
use Rattle.checkpoints.specs.Policy.{slot}

-- the act that keeps into a slot, where there is one
unfoldable pub as_keep : Option ℕ → Option Act
as_keep None = None
as_keep (Some k) = Some (keep k)

abbrev pub SlotFew : Option ℕ → Type 0
SlotFew None = Unit
SlotFew (Some k) = k < slots

-- The slot of keep number i at time 0: one a level, the top level's last.
unfoldable pub beginning_slot : ℕ → Option ℕ
beginning_slot i = cond (nat_le i levels) (Some (level_slots * i)) None

-- Point m of block q at the level v is reached: it is kept, and if it begins the block, also as the end of the block below, and then as the level above says.
unfoldable pub arrival_in : ℕ → ℕ → ℕ → ℕ → (ℕ → Option ℕ) → Option ℕ
arrival_in v q m zero up = Some (slot v q m)
arrival_in v q zero (suc zero) up = Some (slot v (q - 1) fan)
arrival_in v q zero (suc (suc i)) up = up i
arrival_in v q (suc m) (suc i) up = None

-- the top level's slots are few, whatever the point
unfoldable pub arrival_top : ℕ → ℕ → ℕ → Option ℕ
arrival_top v n zero = Some (level_slots * v + n % top_points)
arrival_top v n (suc i) = None

-- point n of the level v is reached, with l levels from it on below the top one
unfoldable pub arrival_from : ℕ → ℕ → ℕ → ℕ → Option ℕ
arrival_from zero v n i = arrival_top v n i
arrival_from (suc l) v n i = arrival_in v (n / fan) (n % fan) i (arrival_from l (suc v) (n / fan))

-- The slot of keep number i on reaching point n of the lowest level.
unfoldable pub arrival_slot : ℕ → ℕ → Option ℕ
arrival_slot n i = arrival_from levels 0 n i

unfoldable pub reached_in : ℕ → ℕ → ℕ
reached_in zero up = up
reached_in (suc m) up = 0

-- of l levels from some level on, how many have a point where it has point n
unfoldable pub reached : ℕ → ℕ → ℕ
reached zero n = 0
reached (suc l) n = suc (reached_in (n % fan) (reached l (n / fan)))

-- Of how many levels, from the lowest on, a point is reached with point n of the lowest.
unfoldable pub levels_reached : ℕ → ℕ
levels_reached n = reached levels n
