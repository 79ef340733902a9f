-- Programs as text: a line for each instruction. Assumes nothing: these are definitions.
use Rattle.std.specs.Prelude.{ℕ, List, [], ◌∷◌, ◌++◌, codes as chars, decimal}
use Rattle.command.specs.Machine.{flat, Instr, load_number, copy, reckon, read, write, jump, jump_if, call, return, take_in, put_out, halt}
use Rattle.assembler.specs.Names.{op_name, comparison_name}

abbrev pub two : ℕ → ℕ → List ℕ
two a b = decimal a ++ (chars ", " ++ decimal b)

abbrev pub three : ℕ → ℕ → ℕ → List ℕ
three a b c = decimal a ++ (chars ", " ++ (decimal b ++ (chars ", " ++ decimal c)))

abbrev pub instr_text : Instr → List ℕ
instr_text (load_number k n) = chars "load " ++ two k n
instr_text (copy k j) = chars "copy " ++ two k j
instr_text (reckon o k j) = chars "reckon " ++ (op_name o ++ (chars " " ++ two k j))
instr_text (read k b n) = chars "read " ++ three k b n
instr_text (write k b n) = chars "write " ++ three k b n
instr_text (jump k) = chars "jump " ++ decimal k
instr_text (jump_if c k j n) = chars "jump " ++ (comparison_name c ++ (chars " " ++ three k j n))
instr_text (call k) = chars "call " ++ decimal k
instr_text return = chars "return"
instr_text (take_in k) = chars "in " ++ decimal k
instr_text (put_out k) = chars "out " ++ decimal k
instr_text halt = chars "halt"

abbrev pub instr_line : Instr → List ℕ
instr_line i = instr_text i ++ 10 ∷ []

abbrev pub listing : List Instr → List ℕ
listing is = flat instr_line is
