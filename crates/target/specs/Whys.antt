-- The reasons of the code by the definitions' numbers. Assumes nothing: these are definitions.
use Rattle.std.specs.Prelude.{◌≡◌, ◌≢◌, ℕ, Some, None, Option, Ok, Err, Result}
use Rattle.command.specs.Machine.{Status, halted, waiting, wrong}
use Rattle.command.specs.Plain.{status_number}
use Rattle.target.specs.declared.answers.Why.{Why}
use Rattle.target.specs.declared.answers.Why.TheVariants.{Halted, Waits, NoInstr, NoWord, ByZero}
use Rattle.target.specs.declared.reasons.NoSuchWhy.{NoSuchWhy}

abbrev pub status_of : Why → Status
status_of Halted = halted
status_of Waits = waiting
status_of NoInstr = wrong 1
status_of NoWord = wrong 2
status_of ByZero = wrong 3

-- 0 where it goes on
abbrev pub why_number : Option Why → ℕ
why_number None = 0
why_number (Some y) = status_number (status_of y)

-- the reason that a number stands for; or it stands for none
abbrev pub Reads : ℕ → Result Why NoSuchWhy → Type 0
Reads n (Ok y) = why_number (Some y) ≡ n
Reads n (Err e) = (e.0 ≡ n) × ((y : Why) → why_number (Some y) ≢ n)
