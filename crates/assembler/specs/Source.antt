-- What a source text assembles to: its labels in one pass, its instructions in another, or its first mistake. Assumes nothing: these are definitions.
use Rattle.std.specs.Prelude.{◌≡◌, ℕ, ◌+◌, ◌-◌, List, [], ◌∷◌, ◌++◌, length, take, is_some, Some, None, Ok, Err, vec_items, string_bytes, codes as chars, decimal, Option, Result, ◌==◌, nat_lt}
use Rattle.std.specs.Borrow.{Bor}
use Rattle.std.specs.Option.{option_map}
use Rattle.command.specs.Codes.{code, codes}
use Rattle.command.specs.Machine.{pick, each, Instr}
use Rattle.command.specs.declared.code.Instr.{Instr as Code}
use Rattle.assembler.specs.declared.mistakes.Expected.{Expected}
use Rattle.assembler.specs.declared.mistakes.Expected.TheVariants.{Mnemonic, Operation, Below, Register, Number, Offset, Place, KnownLabel, NewLabel, LabelName, LineEnd, Room}
use Rattle.assembler.specs.declared.mistakes.Mistake.{Mistake as MistakeCode}
use Rattle.assembler.specs.declared.mistakes.AssembleError.{AssembleError}
use Rattle.assembler.specs.declared.mistakes.AssembleError.TheVariants.{Wrong, NoMemory}
use Rattle.assembler.specs.declared.source.Assembly.{Assembly as AssemblyCode}
use Rattle.assembler.specs.Words.{word, spaced, over, printable}
use Rattle.assembler.specs.Reading.{Got, got, wrong, bind, label, shown_name}
use Rattle.assembler.specs.Instructions.{Label, labels_of, place_of, instruction}

-- the lines of a text, without their ends
abbrev pub onto : ℕ → List (List ℕ) → List (List ℕ)
onto b [] = (b ∷ []) ∷ []
onto b (l ∷ ls) = (b ∷ l) ∷ ls

unfoldable pub lines : List ℕ → List (List ℕ)
lines [] = []
lines (b ∷ bs) = pick (b == 10) ([] ∷ lines bs) (onto b (lines bs))

-- the word that stands at a mistake; a sign that ends words, by itself; nothing at the end of the line or at a comment
abbrev pub found_at : List ℕ → List ℕ
found_at t = pick (over t) [] (pick (length (word t) == 0) (take 1 t) (word t))

-- line and column from 1
pub record Mistake : Type 0 where
  pub line : ℕ
  pub column : ℕ
  pub found : List ℕ
  pub expected : Expected

abbrev pub mistake_on : ℕ → List ℕ → Expected → List ℕ → Mistake
mistake_on n line e t = record { line = n; column = length line - length t + 1; found = each printable (found_at t); expected = e }

-- what was expected and what is wrong, in words
abbrev pub expected_text : Expected → List ℕ
expected_text Mnemonic = chars "an instruction"
expected_text Operation = chars "an operation, such as sum"
expected_text Below = chars "below, after not"
expected_text Register = chars "a register from 0 to 15"
expected_text Number = chars "a number below 4294967296"
expected_text Offset = chars "an offset below 65536"
expected_text Place = chars "a label or a place below 65536"
expected_text KnownLabel = chars "a label that some line has"
expected_text NewLabel = chars "a label that no line before has"
expected_text LabelName = chars "a label's name before the colon"
expected_text LineEnd = chars "the end of the line"
expected_text Room = chars "no more than 4096 instructions"

-- what was found, and then the rest of the sentence
abbrev pub found_text : List ℕ → List ℕ → List ℕ
found_text w rest = pick (length w == 0) (chars "the end of the line" ++ rest) (chars "'" ++ (w ++ (chars "'" ++ rest)))

abbrev pub mistake_text : Mistake → List ℕ
mistake_text m =
    chars "line " ++ (decimal m.line ++ (chars ", column " ++ (decimal m.column ++ (chars ": found " ++ found_text m.found (chars ", expected " ++ expected_text m.expected)))))

-- what a line gave, or the mistake on it
abbrev pub on_line : {A : Type 0} → ℕ → List ℕ → Got A → Result A Mistake
on_line n line (got a t) = Ok a
on_line n line (wrong e t) = Err (mistake_on n line e t)

-- the first pass: a line's label, if it has one, which no line before has; and the place after the line
abbrev pub unless_known : List Label → List ℕ → Option (List ℕ) → List ℕ → Got (Option (List ℕ))
unless_known ls line None t = got None t
unless_known ls line (Some w) t = pick (is_some (place_of ls w)) (wrong NewLabel (spaced line)) (got (Some w) t)

abbrev pub new_label : List Label → List ℕ → Got (Option (List ℕ))
new_label ls line = bind (label line) (unless_known ls line)

abbrev pub with_label : List Label → ℕ → Option (List ℕ) → List Label
with_label ls k None = ls
with_label ls k (Some w) = ls ++ record { name = w; place = k } ∷ []

abbrev pub next_place : ℕ → List ℕ → Result ℕ Expected
next_place k t = pick (over t) (Ok k) (pick (nat_lt k 4096) (Ok (k + 1)) (Err Room))

abbrev pub then_placed : Option (List ℕ) → List ℕ → Result ℕ Expected → Got (Option (List ℕ) × ℕ)
then_placed o t (Ok k) = got (o, k) t
then_placed o t (Err e) = wrong e t

abbrev pub read_label : List Label → ℕ → List ℕ → Got (Option (List ℕ) × ℕ)
read_label ls k line = bind (new_label ls line) (λ o t. then_placed o t (next_place k t))

-- what the code has of that
abbrev pub noted : Option (Bor (List ℕ)) × ℕ → Option (List ℕ) × ℕ
noted p = (shown_name p.0, p.1)

unfoldable pub line_label : ℕ → List Label → ℕ → List ℕ → Result (Option (List ℕ) × ℕ) Mistake
line_label n ls k line = on_line n line (read_label ls k line)

unfoldable pub find_labels : ℕ → List Label → ℕ → List (List ℕ) → Result (List Label) Mistake
find_labels n ls k [] = Ok ls
find_labels n ls k (t ∷ ts) =
    elim (line_label n ls k t) [ Ok p ↦ find_labels (n + 1) (with_label ls k p.0) p.1 ts | Err m ↦ Err m ]

-- the second pass: a line's instruction, if it has one
abbrev pub unless_over : List Label → List ℕ → Got (Option Instr)
unless_over ls t = pick (over t) (got None t) (bind (instruction ls t) (λ i u. got (Some i) u))

abbrev pub read_line : List Label → List ℕ → Got (Option Instr)
read_line ls line = bind (label line) (λ o t. unless_over ls t)

abbrev pub instr_of : Option Code → Option Instr
instr_of o = option_map code o

abbrev pub with_instr : List Instr → Option Instr → List Instr
with_instr is None = is
with_instr is (Some i) = is ++ i ∷ []

unfoldable pub line_instr : ℕ → List Label → List ℕ → Result (Option Instr) Mistake
line_instr n ls line = on_line n line (read_line ls line)

unfoldable pub read_lines : ℕ → List Label → List Instr → List (List ℕ) → Result (List Instr) Mistake
read_lines n ls is [] = Ok is
read_lines n ls is (t ∷ ts) = elim (line_instr n ls t) [ Ok o ↦ read_lines (n + 1) ls (with_instr is o) ts | Err m ↦ Err m ]

pub record Assembly : Type 0 where
  pub program : List Instr
  pub labels : List Label

abbrev pub by_labels : List ℕ → Result (List Label) Mistake → Result Assembly Mistake
by_labels t (Err m) = Err m
by_labels t (Ok ls) = elim (read_lines 1 ls [] (lines t)) [ Ok is ↦ Ok (record { program = is; labels = ls }) | Err m ↦ Err m ]

-- what a text assembles to
unfoldable pub assembled : List ℕ → Result Assembly Mistake
assembled t = by_labels t (find_labels 1 [] 0 (lines t))

-- what the code's answers are: want of memory may always come, and nothing else that is not so
abbrev pub mistake_of : MistakeCode → Mistake
mistake_of m = record { line = m.line; column = m.column; found = string_bytes m.found; expected = m.expected }

abbrev pub assembly_of : AssemblyCode → Assembly
assembly_of a = record { program = codes (vec_items a.program); labels = labels_of (vec_items a.labels) }

abbrev pub Answers : {A B : Type 0} → (B → A) → Result A Mistake → Result B AssembleError → Type 0
Answers f o (Ok b) = o ≡ Ok (f b)
Answers f o (Err (Wrong m)) = o ≡ Err (mistake_of m)
Answers f o (Err NoMemory) = Unit {0}

abbrev pub Tells : Mistake → AssembleError → Type 0
Tells s (Wrong m) = s ≡ mistake_of m
Tells s NoMemory = Unit {0}
