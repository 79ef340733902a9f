-- What the code's commands are by the plain debugger's definition. Assumes nothing: these are definitions.
use Rattle.std.specs.Prelude.{◌≡◌, ℕ, List, [], length, drop, Some, None, Ok, Err, Option, Result}
use Rattle.command.specs.Machine.{Instr}
use Rattle.command.specs.Plain.{Command as Asked, load, give, forward, back, run, rerun, changer, add_break, drop_break, where_now, registers, words_from, outs_from}
use Rattle.command.specs.Breaks.{break_of}
use Rattle.command.specs.Reader.{Got, nothing, got, counted, instr, word, Says}
use Rattle.command.specs.declared.commands.Order.{Order as Ordered}
use Rattle.command.specs.declared.commands.Order.TheVariants.{Forward, Back, Run, Rerun, Changer, Break, Drop, Where, Registers, Words, Outs}
use Rattle.command.specs.declared.commands.Command.{Command}
use Rattle.command.specs.declared.reading.NoCommand.{NoCommand}
use Rattle.command.specs.declared.commands.Command.TheVariants.{Load, Give, Order}

abbrev pub meant : Ordered → Asked
meant (Forward n) = forward n
meant (Back n) = back n
meant (Run n) = run n
meant (Rerun n) = rerun n
meant (Changer a) = changer a
meant (Break b) = add_break (break_of b)
meant (Drop i) = drop_break i
meant Where = where_now
meant Registers = registers
meant (Words a n) = words_from a n
meant (Outs a n) = outs_from a n

-- what was read of a list; none if nothing was read
abbrev pub listed : {A : Type 0} → Got (List A) → List A
listed nothing = []
listed (got xs t) = xs

-- the instructions, or the numbers, that a text spells behind their count
unfoldable pub program_in : List ℕ → List Instr
program_in t = listed (counted 4096 instr t)

unfoldable pub numbers_in : List ℕ → List ℕ
numbers_in t = listed (counted 4096 word t)

-- a command as it is told: the program of a load and the numbers of a give are still in the text, behind the first byte
abbrev pub told : List ℕ → Command → Asked
told t (Load n) = load (program_in t)
told t (Give n) = give (numbers_in t)
told t (Order o) = meant o

-- its count is theirs
abbrev pub Counts : List ℕ → Command → Type 0
Counts t (Load n) = n ≡ length (program_in t)
Counts t (Give n) = n ≡ length (numbers_in t)
Counts t (Order o) = Unit {0}

abbrev pub Counted : List ℕ → Option Command → Type 0
Counted t None = Unit {0}
Counted t (Some c) = Counts t c

-- a command that the text says; or that it says none
abbrev pub Reads : List ℕ → Result Command NoCommand → Type 0
Reads text (Ok c) = Says text (told (drop 1 text) c) × Counts (drop 1 text) c
Reads text (Err e) = (a : Asked) → Says text a → ⊥
