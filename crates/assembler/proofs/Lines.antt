-- A text line by line, and both passes over it. Assumes nothing.
use Rattle.std.proofs.Common.{◌≡◌, ℕ, ◌+◌, ◌<◌, true, false, eqb, List, [], ◌∷◌, length, IsErrAnd, Ok, Err, Option, Result, sym, refl, ap, ◌∙◌, subst, ⊎_elim, arith}
use Rattle.std.proofs.lemmas.List.{nil_from_length}
use Rattle.std.proofs.lemmas.Bool.{cases_Bool}
use Rattle.command.specs.Machine.{Instr}
use Rattle.assembler.specs.declared.mistakes.AssembleError.{AssembleError}
use Rattle.assembler.specs.declared.mistakes.AssembleError.TheVariants.{Wrong, NoMemory}
use Rattle.assembler.specs.Words.{front, past, in_line, line_of, after_line}
use Rattle.assembler.specs.Instructions.{Label}
use Rattle.assembler.specs.Source.{lines, onto, Mistake, mistake_of, line_label, with_label, find_labels, Answers, line_instr, with_instr, read_lines}
use Rattle.assembler.proofs.Runs.{front_on, front_off, past_on, past_off}

more : (b : ℕ) (bs : List ℕ) → (0 < length bs → lines bs ≡ line_of bs ∷ lines (after_line bs)) → onto b (lines bs) ≡ (b ∷ line_of bs) ∷ lines (after_line bs)
unfolding lines front past
more b [] h = refl
more b (c ∷ cs) h = ap (onto b) (h (omega arith))

pub lines_cut : (t : List ℕ) → 0 < length t → lines t ≡ line_of t ∷ lines (after_line t)
unfolding lines
lines_cut [] h = absurd (omega arith)
lines_cut (b ∷ bs) h =
    ⊎_elim
    (λ (e : eqb b 10 ≡ true).
    let f = front_off in_line b bs (rw e) in
    let p = past_off in_line b bs (rw e) in
    simp (f, p, e))
    (λ (e : eqb b 10 ≡ false).
    let f = front_on in_line b bs (rw e) in
    let p = past_on in_line b bs (rw e) in
    simp (f, p, e) (more b bs (lines_cut bs)))
    (cases_Bool (eqb b 10))

-- how the first pass goes on from what a line gave
abbrev finds : ℕ → List Label → ℕ → List ℕ → Result (Option (List ℕ) × ℕ) Mistake → Result (List Label) Mistake
finds n ls k rest (Ok p) = find_labels (n + 1) (with_label ls k p.0) p.1 (lines rest)
finds n ls k rest (Err m) = Err m

find_cut : (n k : ℕ) (ls : List Label) (t line : List ℕ) → 0 < length t → line ≡ line_of t → find_labels n ls k (lines t) ≡ finds n ls k (after_line t) (line_label n ls k line)
unfolding find_labels
find_cut n k ls t line h e = ap (find_labels n ls k) (lines_cut t h) ∙ at (line_label n ls k (line_of t)) ∙ ap (λ u. finds n ls k (after_line t) (line_label n ls k u)) (sym e)
  where
    at : (r : Result (Option (List ℕ) × ℕ) Mistake) → (elim r [ Ok p ↦ find_labels (n + 1) (with_label ls k p.0) p.1 (lines (after_line t)) | Err m ↦ Err m ]) ≡ finds n ls k (after_line t) r
    at (Ok p) = refl
    at (Err m) = refl

pub find_step : (n k : ℕ) (ls ms : List Label) (t line rest : List ℕ) (o : Option (List ℕ)) (j : ℕ) → 0 < length t → line ≡ line_of t → rest ≡ after_line t
    → line_label n ls k line ≡ Ok (o, j) → ms ≡ with_label ls k o → find_labels n ls k (lines t) ≡ find_labels (n + 1) ms j (lines rest)
find_step n k ls ms t line rest o j h e f g d =
    find_cut n k ls t line h e ∙ ap (finds n ls k (after_line t)) g ∙ ap (λ u. find_labels (n + 1) (with_label ls k o) j (lines u)) (sym f) ∙ ap (λ u. find_labels (n + 1) u j (lines rest)) (sym d)

pub find_stop : (n k : ℕ) (ls : List Label) (t line : List ℕ) → 0 < length t → line ≡ line_of t → (m : Mistake) → line_label n ls k line ≡ Err m → find_labels n ls k (lines t) ≡ Err m
find_stop n k ls t line h e m g = find_cut n k ls t line h e ∙ ap (finds n ls k (after_line t)) g

pub find_end : (n k : ℕ) (ls : List Label) (t : List ℕ) → length t ≡ 0 → find_labels n ls k (lines t) ≡ Ok ls
unfolding find_labels lines
find_end n k ls t h = ap (λ u. find_labels n ls k (lines u)) (nil_from_length t h)

-- how the second pass goes on from what a line gave
abbrev goes : ℕ → List Label → List Instr → List ℕ → Result (Option Instr) Mistake → Result (List Instr) Mistake
goes n ls is rest (Ok o) = read_lines (n + 1) ls (with_instr is o) (lines rest)
goes n ls is rest (Err m) = Err m

read_cut : (n : ℕ) (ls : List Label) (is : List Instr) (t line : List ℕ) → 0 < length t → line ≡ line_of t → read_lines n ls is (lines t) ≡ goes n ls is (after_line t) (line_instr n ls line)
unfolding read_lines
read_cut n ls is t line h e = ap (read_lines n ls is) (lines_cut t h) ∙ at (line_instr n ls (line_of t)) ∙ ap (λ u. goes n ls is (after_line t) (line_instr n ls u)) (sym e)
  where
    at : (r : Result (Option Instr) Mistake) → (elim r [ Ok o ↦ read_lines (n + 1) ls (with_instr is o) (lines (after_line t)) | Err m ↦ Err m ]) ≡ goes n ls is (after_line t) r
    at (Ok o) = refl
    at (Err m) = refl

pub read_step : (n : ℕ) (ls : List Label) (is js : List Instr) (t line rest : List ℕ) (o : Option Instr) → 0 < length t → line ≡ line_of t → rest ≡ after_line t
    → line_instr n ls line ≡ Ok o → js ≡ with_instr is o → read_lines n ls is (lines t) ≡ read_lines (n + 1) ls js (lines rest)
read_step n ls is js t line rest o h e f g d =
    read_cut n ls is t line h e ∙ ap (goes n ls is (after_line t)) g ∙ ap (λ u. read_lines (n + 1) ls (with_instr is o) (lines u)) (sym f) ∙ ap (λ u. read_lines (n + 1) ls u (lines rest)) (sym d)

pub read_stop : (n : ℕ) (ls : List Label) (is : List Instr) (t line : List ℕ) → 0 < length t → line ≡ line_of t → (m : Mistake) → line_instr n ls line ≡ Err m → read_lines n ls is (lines t) ≡ Err m
read_stop n ls is t line h e m g = read_cut n ls is t line h e ∙ ap (goes n ls is (after_line t)) g

pub read_end : (n : ℕ) (ls : List Label) (is : List Instr) (t : List ℕ) → length t ≡ 0 → read_lines n ls is (lines t) ≡ Ok is
unfolding read_lines lines
read_end n ls is t h = ap (λ u. read_lines n ls is (lines u)) (nil_from_length t h)

-- the exit of a `?`: a line's mistake is the text's, and want of memory may always come
passes : {A B C D : Type 0} (f : B → A) (g : D → C) (o : Result A Mistake) (w : Result C Mistake) (e : AssembleError)
    → ((m : Mistake) → o ≡ Err m → w ≡ Err m) → Answers f o (Err e) → Answers g w (Err e)
passes f g o w (Wrong m) k a = k (mistake_of m) a
passes f g o w NoMemory k a = tt

pub passes_on : {A B C D : Type 0} (f : B → A) (g : D → C) (o : Result A Mistake) (w : Result C Mistake) (e : AssembleError) (r : Result D AssembleError)
    → ((m : Mistake) → o ≡ Err m → w ≡ Err m) → Answers f o (Err e) → IsErrAnd r (λ y. y ≡ e) → Answers g w r
passes_on f g o w e (Ok d) k a q = absurd q
passes_on f g o w e (Err y) k a q = subst (λ (x : AssembleError). Answers g w (Err x)) (sym q) (passes f g o w e k a)
