-- What was read back from a row. Assumes nothing: these are definitions.
use Rattle.std.specs.Prelude.{◌≡◌, ℕ, List, Ok, Err, Result}
use Rattle.command.specs.Plain.{a_word}
use Rattle.command.specs.Reader.{Got, nothing, got, Reader, first, only}
use Rattle.driver.specs.declared.event.Ending.{Ending}
use Rattle.driver.specs.declared.event.Ending.TheVariants.{Refused}
use Rattle.driver.specs.declared.refusal.Refusal.TheVariants.{Fault}

-- all that was to be read, or not
abbrev pub Filled : {A : Type 0} → Result (Unit {0}) Ending → Got (List A) → List A → Type 0
Filled (Ok x) g xs = (u : List ℕ) × (g ≡ got xs u)
Filled (Err e) g xs = (e ≡ Refused Fault) × (g ≡ nothing)

-- a number of a row, if it fits a word
abbrev pub one_word : Reader ℕ
one_word t = only a_word (first t)
