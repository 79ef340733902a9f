-- The names of instructions, operations and comparisons. Assumes nothing: these are definitions.
use Rattle.std.specs.Prelude.{ℕ, List, [], ◌∷◌, get_or, Some, None, codes, Option, slice_index_or}
use Rattle.std.specs.Str.{bytes_eq}
use Rattle.command.specs.Machine.{pick}
use Rattle.assembler.specs.declared.names.Mnemonic.{Mnemonic}
use Rattle.assembler.specs.declared.names.Mnemonic.TheVariants.{Load, Copied, Reckon, Read, Write, Jump, Call, Return, In, Out, Halt}

-- what a word is the name of, if it is a name
abbrev pub among : {A : Type 0} → List (List ℕ × A) → List ℕ → Option A
among [] w = None
among (n ∷ ns) w = pick (bytes_eq w n.0) (Some n.1) (among ns w)

abbrev pub mnemonics : List (List ℕ × Mnemonic)
mnemonics =
    (codes "load", Load) ∷ (codes "copy", Copied) ∷ (codes "reckon", Reckon) ∷ (codes "read", Read) ∷ (codes "write", Write) ∷ (codes "jump", Jump)
    ∷ (codes "call", Call) ∷ (codes "return", Return) ∷ (codes "in", In) ∷ (codes "out", Out) ∷ (codes "halt", Halt) ∷ []

-- operations by their numbers
abbrev pub ops : List (List ℕ × ℕ)
ops =
    (codes "sum", 0) ∷ (codes "difference", 1) ∷ (codes "product", 2) ∷ (codes "quotient", 3) ∷ (codes "remainder", 4) ∷ (codes "and", 5)
    ∷ (codes "or", 6) ∷ (codes "either", 7) ∷ (codes "left", 8) ∷ (codes "right", 9) ∷ []

-- comparisons of one word, by their numbers; 3 is `not below`
abbrev pub comparisons : List (List ℕ × ℕ)
comparisons = (codes "equal", 0) ∷ (codes "unequal", 1) ∷ (codes "below", 2) ∷ []

abbrev pub mnemonic_named : List ℕ → Option Mnemonic
mnemonic_named w = among mnemonics w

abbrev pub op_named : List ℕ → Option ℕ
op_named w = among ops w

abbrev pub comparison_named : List ℕ → Option ℕ
comparison_named w = among comparisons w

abbrev pub op_name : ℕ → List ℕ
op_name n = (get_or ops n ([], 0)).0

abbrev pub comparison_name : ℕ → List ℕ
comparison_name n = slice_index_or (codes "equal" ∷ codes "unequal" ∷ codes "below" ∷ codes "not below" ∷ []) n []

abbrev pub mnemonic_name : Mnemonic → List ℕ
mnemonic_name Load = codes "load"
mnemonic_name Copied = codes "copy"
mnemonic_name Reckon = codes "reckon"
mnemonic_name Read = codes "read"
mnemonic_name Write = codes "write"
mnemonic_name Jump = codes "jump"
mnemonic_name Call = codes "call"
mnemonic_name Return = codes "return"
mnemonic_name In = codes "in"
mnemonic_name Out = codes "out"
mnemonic_name Halt = codes "halt"
