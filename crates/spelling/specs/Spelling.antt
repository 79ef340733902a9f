-- Programs as bytes: a reader of their spelling, and what it promises. Assumes nothing: these are definitions.
use Rattle.std.specs.Prelude.{◌≡◌, ℕ, ◌<◌, true, List, [], ◌∷◌, length, Some, None, Ok, Err, vec_items, Option, Result, Vec}
use Rattle.std.specs.declared.alloc.Global.{Global}
use Rattle.command.specs.Codes.{codes}
use Rattle.command.specs.Machine.{every, Instr}
use Rattle.command.specs.Plain.{an_instr}
use Rattle.command.specs.Reader.{Got, nothing, got, Reader, bind, bytes, so_many, instr}
use Rattle.command.specs.Written.{program_spelled}
use Rattle.command.specs.declared.code.Instr.{Instr as Code}
use Rattle.spelling.specs.declared.spelled.ReadError.{ReadError}
use Rattle.spelling.specs.declared.spelled.ReadError.TheVariants.{NoProgram, NoMemory}

abbrev pub program : Reader (List Instr)
program t = bind (bytes 8 0 t) (λ n u. so_many instr n u)

-- nothing may be left over
abbrev pub all_of : {A : Type 0} → Got A → Option A
all_of nothing = None
all_of (got a []) = Some a
all_of (got a (b ∷ t)) = None

unfoldable pub read_program : List ℕ → Option (List Instr)
read_program t = all_of (program t)

-- so many instructions that the code read, by what they mean, and what is left; want of memory may always come
abbrev pub TakesAll : Got (List Instr) → Result (Vec Code Global) ReadError → List ℕ → Type 0
TakesAll g (Ok v) u = g ≡ got (codes (vec_items v)) u
TakesAll g (Err NoProgram) u = g ≡ nothing
TakesAll g (Err NoMemory) u = Unit {0}

-- a reader's answer: the bytes are the program's spelling, or they spell none
abbrev pub Spells : List ℕ → List Instr → Type 0
Spells t is = (program_spelled is ≡ t) × (every an_instr is ≡ true)

abbrev pub Reads : List ℕ → Result (Vec Code Global) ReadError → Type 0
Reads t (Ok v) = Spells t (codes (vec_items v))
Reads t (Err NoProgram) = (is : List Instr) → length is < 18446744073709551616 → Spells t is → ⊥
Reads t (Err NoMemory) = Unit {0}
