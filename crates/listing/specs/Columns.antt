-- Columns of a line. Assumes nothing: these are definitions.
use Rattle.std.specs.Prelude.{◌≡◌, ℕ, ◌-◌, List, length, IfSome, Option}
use Rattle.command.specs.Machine.{larger, so_many}

-- n is the length of a text, where it is known
abbrev pub Wide : Option (List ℕ) → ℕ → Type 0
Wide o n = IfSome o (λ t. n ≡ length t)

-- between an instruction and its comment: up to column 28, and two at least
abbrev pub gap : ℕ → ℕ
gap width = larger 2 (28 - width)

abbrev pub blanks : ℕ → List ℕ
blanks n = so_many n 32
