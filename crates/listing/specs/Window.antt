-- The lines of a listing. Assumes nothing: these are definitions.
use Rattle.std.specs.Prelude.{ℕ, ◌+◌, ◌-◌, Bool, false, ◌&&◌, List, [], ◌∷◌, ◌++◌, Some, None, Option, ◌==◌, nat_le, nat_lt}
use Rattle.command.specs.Machine.{pick, smaller, Instr}
use Rattle.assembler.specs.Instructions.{Label}
use Rattle.listing.specs.Lines.{line_text}

-- five lines before a place and five behind it, as far as there are so many
abbrev pub first_line : ℕ → ℕ → ℕ
first_line count k = smaller k count - 5

abbrev pub past_last_line : ℕ → ℕ → ℕ
past_last_line count k = smaller (k + 6) count

abbrev pub in_window : ℕ → ℕ → ℕ → Bool
in_window from to k = nat_le from k && nat_lt k to

abbrev pub is_at : Option ℕ → ℕ → Bool
is_at None k = false
is_at (Some a) k = a == k

-- the lines of instructions that stand from a place on
unfoldable pub lines_on : List Instr → List Label → ℕ → ℕ → Option ℕ → ℕ → List Instr → List ℕ
lines_on is ls from to a k [] = []
lines_on is ls from to a k (j ∷ js) =
    pick (in_window from to k) (line_text is ls (is_at a k) k j ++ lines_on is ls from to a (k + 1) js) (lines_on is ls from to a (k + 1) js)

abbrev pub lines_text : List Instr → List Label → ℕ → ℕ → Option ℕ → List ℕ
lines_text is ls from to a = lines_on is ls from to a 0 is
