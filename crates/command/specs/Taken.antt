-- How what the code takes off a text stands for what a reader reads. Assumes nothing: these are definitions.
use Rattle.std.specs.Prelude.{◌≡◌, ℕ, ◌<◌, List, Some, None, Option}
use Rattle.command.specs.Reader.{Got, nothing, got}
use Rattle.command.specs.Breaks.{kind_of, which_of}
use Rattle.command.specs.declared.code.Reg.{Reg}
use Rattle.command.specs.declared.breaks.Subject.{Subject}
use Rattle.command.specs.declared.reading.cursor.Cursor.{Cursor}

-- what is left of a text, as numbers; and of one whose bytes are numbers
abbrev pub left_in : {B : Type 0} → (List B → List ℕ) → Cursor B → List ℕ
left_in text c = text c.rest.now

abbrev pub left : Cursor ℕ → List ℕ
left c = c.rest.now

-- a value, by what it stands for, and the text that is left behind it; or none
abbrev pub Takes : {A B : Type 0} → (B → A) → Got A → Option B → List ℕ → Type 0
Takes m g None u = g ≡ nothing
Takes m g (Some b) u = g ≡ got (m b) u

-- what was taken is below a limit
abbrev pub Within : ℕ → Option ℕ → Type 0
Within limit None = Unit {0}
Within limit (Some n) = n < limit

abbrev pub itself : {A : Type 0} → A → A
itself a = a

abbrev pub reg_number : Reg → ℕ
reg_number k = k.number

abbrev pub subject_of : Subject → ℕ × ℕ
subject_of s = (kind_of s, which_of s)
