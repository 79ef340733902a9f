-- What the code's breaks are by the plain debugger's definition. Assumes nothing: these are definitions.
use Rattle.std.specs.Prelude.{ℕ, List, take}
use Rattle.std.specs.Option.{option_to_list}
use Rattle.command.specs.Machine.{each}
use Rattle.command.specs.Plain.{Test as Asked, Break as Stop}
use Rattle.command.specs.Codes.{comparison_number}
use Rattle.command.specs.declared.breaks.Subject.{Subject}
use Rattle.command.specs.declared.breaks.Subject.TheVariants.{Register, Word}
use Rattle.command.specs.declared.breaks.Test.{Test}
use Rattle.command.specs.declared.breaks.Break.{Break}

abbrev pub kind_of : Subject → ℕ
kind_of (Register k) = 0
kind_of (Word a) = 1

abbrev pub which_of : Subject → ℕ
which_of (Register k) = k.number
which_of (Word a) = a

abbrev pub test_of : Test → Asked
test_of t = record { kind = kind_of t.subject; which = which_of t.subject; sign = comparison_number t.comparison; value = t.value }

abbrev pub tests_of : Break → List Asked
tests_of b = each test_of (take b.count b.tests)

-- a break's number is the debugger's own affair, and no step looks at it
abbrev pub break_of : Break → Stop
break_of b = record { id = 0; place = option_to_list b.place; tests = tests_of b; changed = option_to_list b.changed }

abbrev pub breaks_of : List Break → List Stop
breaks_of bs = each break_of bs
