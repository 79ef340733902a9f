-- One line of a listing. Assumes nothing: these are definitions.
use Rattle.std.specs.Prelude.{ℕ, Bool, List, [], ◌++◌, length, codes as chars, decimal, nat_lt}
use Rattle.command.specs.Machine.{pick, Instr, load_number, copy, reckon, read, write, jump, jump_if, call, return, take_in, put_out, halt}
use Rattle.assembler.specs.Instructions.{Label}
use Rattle.assembler.specs.Names.{comparison_name}
use Rattle.assembler.specs.Listing.{instr_text}
use Rattle.listing.specs.Columns.{gap}
use Rattle.listing.specs.Branches.{origins_text}
use Rattle.listing.specs.Labels.{place_text, headings}

-- an instruction as the assembler writes it, with labels for the places that it names
abbrev pub named_text : List Label → Instr → List ℕ
named_text ls (load_number k n) = instr_text (load_number k n)
named_text ls (copy k j) = instr_text (copy k j)
named_text ls (reckon o k j) = instr_text (reckon o k j)
named_text ls (read k b n) = instr_text (read k b n)
named_text ls (write k b n) = instr_text (write k b n)
named_text ls (jump k) = chars "jump " ++ place_text ls k
named_text ls (jump_if c k j n) =
    chars "jump " ++ (comparison_name c ++ (chars " " ++ (decimal k ++ (chars ", " ++ (decimal j ++ (chars ", " ++ place_text ls n))))))
named_text ls (call k) = chars "call " ++ place_text ls k
named_text ls return = instr_text return
named_text ls (take_in k) = instr_text (take_in k)
named_text ls (put_out k) = instr_text (put_out k)
named_text ls halt = instr_text halt

-- so that numbers of up to four digits end in one column
abbrev pub indent : ℕ → List ℕ
indent k = pick (nat_lt k 10) (chars "   ") (pick (nat_lt k 100) (chars "  ") (pick (nat_lt k 1000) (chars " ") []))

-- the margin, which shows where the processor is
abbrev pub arrow : Bool → List ℕ
arrow here = pick here (chars "->") (chars "  ")

-- the line of a place and its end, below its labels
unfoldable pub line_text : List Instr → List Label → Bool → ℕ → Instr → List ℕ
line_text is ls here k i =
    headings ls k ++ (arrow here ++ (chars " " ++ (indent k ++ (decimal k ++ (chars "  " ++ (named_text ls i ++ (origins_text is k (gap (length (named_text ls i))) ++ chars "\n")))))))
