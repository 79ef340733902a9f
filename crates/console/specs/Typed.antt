-- A line as it is typed, which may end in a newline. Assumes nothing: these are definitions.
use Rattle.std.specs.Prelude.{ℕ, ◌-◌, List, length, take, ◌==◌, if◌then◌else◌, slice_index}

-- the line without its newline, if it ends in one
abbrev pub without_newline : List ℕ → List ℕ
without_newline bs = if slice_index bs (length bs - 1) == 10 then take (length bs - 1) bs else bs
