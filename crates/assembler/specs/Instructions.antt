-- One instruction of a line: its mnemonic and its operands. Assumes nothing: these are definitions.
use Rattle.std.specs.Prelude.{ℕ, List, [], ◌∷◌, Some, None, string_bytes, codes, Option, Result}
use Rattle.std.specs.Option.{ok_or, unwrap_or, option_map}
use Rattle.std.specs.Str.{bytes_eq}
use Rattle.command.specs.Machine.{pick, each, Instr, load_number, copy, reckon, read, write, jump, jump_if, call, return, take_in, put_out, halt}
use Rattle.command.specs.Codes.{comparison_number}
use Rattle.command.specs.declared.code.Reg.{Reg}
use Rattle.command.specs.declared.code.Comparison.{Comparison}
use Rattle.assembler.specs.declared.labels.Label.{Label as Code}
use Rattle.assembler.specs.declared.mistakes.Expected.{Expected}
use Rattle.assembler.specs.declared.mistakes.Expected.TheVariants as expected
use Rattle.assembler.specs.declared.names.Mnemonic.{Mnemonic}
use Rattle.assembler.specs.declared.names.Mnemonic.TheVariants.{Load, Copied, Reckon, Read, Write, Jump, Call, Return, In, Out, Halt}
use Rattle.assembler.specs.Words.{word, past_word, spaced, separated, a_name, behind, number_below}
use Rattle.assembler.specs.Names.{mnemonic_named, op_named, comparison_named}
use Rattle.assembler.specs.Reading.{Got, got, wrong, bind, by_word, a_word, ended}

-- a place's name
pub record Label : Type 0 where
  pub name : List ℕ
  pub place : ℕ

-- what the code's labels are
abbrev pub label_of : Code → Label
label_of l = record { name = string_bytes l.name; place = l.place }

abbrev pub labels_of : List Code → List Label
labels_of ls = each label_of ls

abbrev pub reg_number : Reg → ℕ
reg_number k = k.number

abbrev pub comparison_of : Option Comparison → Option ℕ
comparison_of o = option_map comparison_number o

unfoldable pub place_of : List Label → List ℕ → Option ℕ
place_of [] w = None
place_of (l ∷ ls) w = pick (bytes_eq l.name w) (Some l.place) (place_of ls w)

-- a number alone or after an r
abbrev pub register_named : List ℕ → Option ℕ
register_named w = number_below 16 (unwrap_or (behind 114 w) w)

abbrev pub place_named : List Label → List ℕ → Result ℕ Expected
place_named ls w = pick (a_name w) (ok_or (place_of ls w) expected.KnownLabel) (ok_or (number_below 65536 w) expected.Place)

abbrev pub register : List ℕ → Got ℕ
register t = a_word expected.Register register_named t

abbrev pub next_register : List ℕ → Got ℕ
next_register t = register (separated t)

abbrev pub next_number : List ℕ → Got ℕ
next_number t = a_word expected.Number (number_below 4294967296) (separated t)

abbrev pub next_offset : List ℕ → Got ℕ
next_offset t = a_word expected.Offset (number_below 65536) (separated t)

abbrev pub place : List Label → List ℕ → Got ℕ
place ls t = by_word (place_named ls) t

abbrev pub operation : List ℕ → Got ℕ
operation t = a_word expected.Operation op_named t

abbrev pub mnemonic : List ℕ → Got Mnemonic
mnemonic t = a_word expected.Mnemonic mnemonic_named t

-- the second word of `not below`
abbrev pub below : List ℕ → Got (Option ℕ)
below t = pick (bytes_eq (word t) (codes "below")) (got (Some 3) (past_word t)) (wrong expected.Below t)

abbrev pub if_named : Option ℕ → List ℕ → List ℕ → Got (Option ℕ)
if_named None t u = got None t
if_named (Some c) t u = got (Some c) u

-- a comparison, or none, where a place follows
abbrev pub comparison : List ℕ → Got (Option ℕ)
comparison t =
    pick (bytes_eq (word t) (codes "not")) (below (spaced (past_word t))) (if_named (comparison_named (word t)) t (past_word t))

abbrev pub load_operands : List ℕ → Got Instr
load_operands t = bind (register t) (λ k u. bind (next_number u) (λ n v. got (load_number k n) v))

abbrev pub copy_operands : List ℕ → Got Instr
copy_operands t = bind (register t) (λ k u. bind (next_register u) (λ j v. got (copy k j) v))

abbrev pub reckon_operands : List ℕ → Got Instr
reckon_operands t =
    bind (operation t) (λ o s. bind (register (spaced s)) (λ k u. bind (next_register u) (λ j v. got (reckon o k j) v)))

abbrev pub word_operands : (ℕ → ℕ → ℕ → Instr) → List ℕ → Got Instr
word_operands f t = bind (register t) (λ k u. bind (next_register u) (λ b v. bind (next_offset v) (λ n w. got (f k b n) w)))

abbrev pub jump_if_operands : List Label → ℕ → List ℕ → Got Instr
jump_if_operands ls c t =
    bind (register (spaced t)) (λ k u. bind (next_register u) (λ j v. bind (place ls (separated v)) (λ n w. got (jump_if c k j n) w)))

abbrev pub to_place : List Label → (ℕ → Instr) → List ℕ → Got Instr
to_place ls f t = bind (place ls t) (λ k u. got (f k) u)

abbrev pub jump_by : List Label → Option ℕ → List ℕ → Got Instr
jump_by ls None t = to_place ls jump t
jump_by ls (Some c) t = jump_if_operands ls c t

abbrev pub jump_operands : List Label → List ℕ → Got Instr
jump_operands ls t = bind (comparison t) (jump_by ls)

abbrev pub one_register : (ℕ → Instr) → List ℕ → Got Instr
one_register f t = bind (register t) (λ k u. got (f k) u)

abbrev pub operands : List Label → Mnemonic → List ℕ → Got Instr
operands ls Load t = load_operands t
operands ls Copied t = copy_operands t
operands ls Reckon t = reckon_operands t
operands ls Read t = word_operands read t
operands ls Write t = word_operands write t
operands ls Jump t = jump_operands ls t
operands ls Call t = to_place ls call t
operands ls Return t = got return t
operands ls In t = one_register take_in t
operands ls Out t = one_register put_out t
operands ls Halt t = got halt t

-- the one instruction of a line
unfoldable pub instruction : List Label → List ℕ → Got Instr
instruction ls t = bind (mnemonic t) (λ m u. bind (operands ls m (spaced u)) (λ i v. bind (ended v) (λ z w. got i w)))
