-- The numbers of the checkpoint policy, in one place. Assumes nothing.
use Rattle.std.specs.Prelude.{ℕ, ◌+◌, ◌*◌, ◌^◌}

-- The lowest level keeps a state every so many steps.
abbrev pub stride : ℕ
stride = 4096

-- So many points are a block, and one spacing of the level above.
abbrev pub fan : ℕ
fan = 8

-- The levels that keep points of two blocks only. Above them the top level keeps all of its points, of which there are so many.
abbrev pub levels : ℕ
levels = 15

abbrev pub top_points : ℕ
top_points = 30

-- Two more than a block has points: one for the point that is being built in the block below, one for that block's end.
abbrev pub level_slots : ℕ
level_slots = fan + 2

-- Two slots are spare: for the state where a command began, and for what it found.
abbrev pub here : ℕ
here = levels * level_slots + top_points

abbrev pub hit : ℕ
hit = here + 1

-- 182 in all
abbrev pub slots : ℕ
slots = here + 2

-- Times are below this, 30 * 2^57: those of 2^32 commands of 10^9 steps are.
abbrev pub most_time : ℕ
most_time = top_points * (stride * fan ^ levels)
