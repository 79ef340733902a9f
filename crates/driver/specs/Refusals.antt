-- The numbers that refusals stand for. Assumes nothing: these are definitions.
use Rattle.std.specs.Prelude.{ℕ}
use Rattle.driver.specs.declared.refusal.Refusal.{Refusal}
use Rattle.driver.specs.declared.refusal.Refusal.TheVariants.{NoCommand, NotKnown, Full, Never, Fault}

-- what a run ends with; no two have the same
abbrev pub refusal_number : Refusal → ℕ
refusal_number NoCommand = 1
refusal_number NotKnown = 2
refusal_number Full = 7
refusal_number Never = 1000
refusal_number Fault = 1001
