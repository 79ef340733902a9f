-- A listing assembles to the program that it lists. Assumes nothing.
use Rattle.std.proofs.Common.{◌≡◌, ℕ, ◌+◌, ◌<◌, ◌≤◌, true, eqb, ltb, List, [], ◌∷◌, ◌++◌, length, Some, None, Ok, Err, Option, Result, sym, refl, ap, ◌∙◌, append_assoc, append-nil, arith}
use Rattle.std.proofs.lemmas.Bool.{lt-ltb, and_parts, not-true}
use Rattle.command.specs.Machine.{pick, every, each, Instr}
use Rattle.command.specs.Plain.{an_instr}
use Rattle.assembler.specs.declared.mistakes.Expected.TheVariants as expected
use Rattle.assembler.specs.Words.{in_line}
use Rattle.assembler.specs.Reading.{got, bind}
use Rattle.assembler.specs.Instructions.{Label, instruction}
use Rattle.assembler.specs.Source.{Mistake, Assembly, lines, onto, on_line, unless_known, then_placed, next_place, line_label, with_label, find_labels, unless_over, line_instr, with_instr, read_lines, by_labels, assembled}
use Rattle.assembler.specs.Listing.{instr_text, listing}
use Rattle.assembler.specs.Again.{ListedBack, ListedOnce}
use Rattle.assembler.proofs.Back.{ReadsBack, reads_back}

lines_line : (l t : List ℕ) → every in_line l ≡ true → lines (l ++ 10 ∷ t) ≡ l ∷ lines t
unfolding lines
lines_line [] t h = refl
lines_line (b ∷ bs) t h =
    let a = and_parts (in_line b) (every in_line bs) h in
    rw (not-true (eqb b 10) a.0) (ap (onto b) (lines_line bs t a.1))

lines_listing : (is : List Instr) → every an_instr is ≡ true → lines (listing is) ≡ each instr_text is
unfolding lines
lines_listing [] h = refl
lines_listing (i ∷ is) h =
    let a = and_parts (an_instr i) (every an_instr is) h in
    ap lines (append_assoc (instr_text i) (10 ∷ []) (listing is))
    ∙ lines_line (instr_text i) (listing is) (reads_back i a.0).line
    ∙ ap (λ u. instr_text i ∷ u) (lines_listing is a.1)

-- the first pass over a line
no_label : (n k : ℕ) (i : Instr) → ReadsBack i → k < 4096 → line_label n [] k (instr_text i) ≡ Ok (None, k + 1)
unfolding line_label
no_label n k i r h =
    ap (λ g. on_line n (instr_text i) (bind (bind g (unless_known [] (instr_text i))) (λ o t. then_placed o t (next_place k t)))) r.bare
    ∙ ap (λ b. on_line n (instr_text i) (then_placed None (instr_text i) (pick b (Ok k) (pick (ltb k 4096) (Ok (k + 1)) (Err expected.Room))))) r.full
    ∙ ap (λ b. on_line n (instr_text i) (then_placed None (instr_text i) (pick b (Ok (k + 1)) (Err expected.Room)))) (lt-ltb k 4096 h)

-- the second pass over a line
one_instr : (n : ℕ) (i : Instr) → ReadsBack i → line_instr n [] (instr_text i) ≡ Ok (Some i)
unfolding line_instr
one_instr n i r =
    ap (λ g. on_line n (instr_text i) (bind g (λ o t. unless_over [] t))) r.bare
    ∙ ap (λ b. on_line n (instr_text i) (pick b (got None (instr_text i)) (bind (instruction [] (instr_text i)) (λ i u. got (Some i) u)))) r.full
    ∙ ap (λ g. on_line n (instr_text i) (bind g (λ i u. got (Some i) u))) r.reads

abbrev finds : ℕ → List (List ℕ) → ℕ → Result (Option (List ℕ) × ℕ) Mistake → Result (List Label) Mistake
finds n ts k (Ok p) = find_labels (n + 1) (with_label [] k p.0) p.1 ts
finds n ts k (Err m) = Err m

no_labels : (n k : ℕ) (is : List Instr) → every an_instr is ≡ true → k + length is ≤ 4096 → find_labels n [] k (each instr_text is) ≡ Ok []
unfolding find_labels
no_labels n k [] h l = refl
no_labels n k (i ∷ is) h l =
    let a = and_parts (an_instr i) (every an_instr is) h in
    ap (finds n (each instr_text is) k) (no_label n k i (reads_back i a.0) (omega arith)) ∙ no_labels (n + 1) (k + 1) is a.1 (omega arith)

abbrev goes : ℕ → List (List ℕ) → List Instr → Result (Option Instr) Mistake → Result (List Instr) Mistake
goes n ts js (Ok o) = read_lines (n + 1) [] (with_instr js o) ts
goes n ts js (Err m) = Err m

all_instrs : (n : ℕ) (js is : List Instr) → every an_instr is ≡ true → read_lines n [] js (each instr_text is) ≡ Ok (js ++ is)
unfolding read_lines
all_instrs n js [] h = ap Ok (sym (append-nil js))
all_instrs n js (i ∷ is) h =
    let a = and_parts (an_instr i) (every an_instr is) h in
    ap (goes n (each instr_text is) js) (one_instr n i (reads_back i a.0)) ∙ all_instrs (n + 1) (js ++ i ∷ []) is a.1 ∙ ap Ok (append_assoc js (i ∷ []) is)

abbrev whole : List Label → Result (List Instr) Mistake → Result Assembly Mistake
whole ls (Ok is) = Ok (record { program = is; labels = ls })
whole ls (Err m) = Err m

pub listed_back : ListedBack
unfolding assembled
listed_back is h =
    let e = lines_listing is h.fit in
    ap (by_labels (listing is)) (ap (find_labels 1 [] 0) e ∙ no_labels 1 0 is h.fit (let f = h.few in omega arith))
    ∙ ap (whole []) (ap (read_lines 1 [] []) e ∙ all_instrs 1 [] is h.fit)

unfoldable program_of : Result Assembly Mistake → List Instr
program_of (Ok a) = a.program
program_of (Err m) = []

pub listed_once : ListedOnce
unfolding program_of
listed_once is js h k e = ap program_of (sym (listed_back is h) ∙ ap assembled e ∙ listed_back js k)
