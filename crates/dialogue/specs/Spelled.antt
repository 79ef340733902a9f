-- Numbers that are shown, eight bytes each. Assumes nothing: these are definitions.
use Rattle.std.specs.Prelude.{◌≡◌, ℕ, Bool, true, List, ◌++◌}
use Rattle.command.specs.Machine.{every, flat, eight}
use Rattle.command.specs.Reader.{Reader, nothing, number, up_to}

-- what eight bytes can spell
abbrev pub a_number : ℕ → Bool
a_number = up_to 18446744073709551615

abbrev pub one_number : Reader ℕ
one_number = number a_number

-- all numbers that a text begins with: behind them stands none
abbrev pub Begins : (text numbers : List ℕ) → Type 0
Begins text ns = (rest : List ℕ) × (flat eight ns ++ rest ≡ text) × (every a_number ns ≡ true) × (one_number rest ≡ nothing)

-- of a text that spells numbers and nothing else, those
abbrev pub Spells : (text numbers : List ℕ) → Type 0
Spells text ns = (ms : List ℕ) → every a_number ms ≡ true → flat eight ms ≡ text → ns ≡ ms
