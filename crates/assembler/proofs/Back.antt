-- Each instruction is read back from its text. Assumes nothing.
use Rattle.std.proofs.Common.{◌≡◌, ℕ, zero, suc, ◌<◌, true, false, List, [], ◌∷◌, ◌++◌, Some, None, codes as chars, decimal, refl, ap, ◌∙◌, arith}
use Rattle.std.proofs.lemmas.Bool.Decides.{nat_tests}
use Rattle.command.specs.Machine.{every, Instr, load_number, copy, reckon, read, write, jump, jump_if, call, return, take_in, put_out, halt}
use Rattle.command.specs.Plain.{an_instr}
use Rattle.assembler.specs.Words.{digit, in_line, front, past, spaced, separated, over}
use Rattle.assembler.specs.Names.{op_name, comparison_name}
use Rattle.assembler.specs.Reading.{Got, got, bind, label, ended}
use Rattle.assembler.specs.Instructions.{register, next_register, next_number, next_offset, operation, comparison, place, load_operands, copy_operands, reckon_operands, word_operands, jump_operands, to_place, one_register, jump_by, instruction}
use Rattle.assembler.specs.Listing.{two, three, instr_text}
use Rattle.assembler.proofs.Numerals.{Numeral, numeral, every_append, every_from, digit_line, spaced_at, register_at, next_register_at, spaced_last, register_last, next_register_last, next_number_last, next_offset_last, place_last, next_place_last, comparison_last}

bind_at : {A B : Type 0} {g : Got A} {a : A} {t : List ℕ} (f : A → List ℕ → Got B) → g ≡ got a t → bind g f ≡ f a t
bind_at f e = ap (λ g. bind g f) e

-- a number's own text
num : (n : ℕ) → n < 4294967296 → Numeral (decimal n) n
num n h = numeral n (omega arith)

line_number : (n : ℕ) (u : List ℕ) → n < 4294967296 → every in_line (decimal n ++ u) ≡ every in_line u
line_number n u h = every_append in_line (decimal n) u (every_from digit in_line digit_line (decimal n) (num n h).all)

line_last : (n : ℕ) → n < 4294967296 → every in_line (decimal n) ≡ true
line_last n h = every_from digit in_line digit_line (decimal n) (num n h).all

two_line : (a b : ℕ) → a < 4294967296 → b < 4294967296 → every in_line (two a b) ≡ true
two_line a b h k = line_number a (chars ", " ++ decimal b) h ∙ line_last b k

three_line : (a b c : ℕ) → a < 4294967296 → b < 4294967296 → c < 4294967296 → every in_line (three a b c) ≡ true
three_line a b c h k l = line_number a (chars ", " ++ two b c) h ∙ two_line b c k l

-- two registers, and what is behind them
copy_two : (k j : ℕ) → k < 16 → j < 16 → copy_operands (two k j) ≡ got (copy k j) []
copy_two k j h g =
    bind_at (λ k u. bind (next_register u) (λ j v. got (copy k j) v)) (register_at (decimal k) k (num k (omega arith)) (chars ", " ++ decimal j) refl h)
    ∙ bind_at (λ j v. got (copy k j) v) (next_register_last (decimal j) j (num j (omega arith)) g)

load_two : (k n : ℕ) → k < 16 → n < 4294967296 → load_operands (two k n) ≡ got (load_number k n) []
load_two k n h g =
    bind_at (λ k u. bind (next_number u) (λ n v. got (load_number k n) v)) (register_at (decimal k) k (num k (omega arith)) (chars ", " ++ decimal n) refl h)
    ∙ bind_at (λ n v. got (load_number k n) v) (next_number_last (decimal n) n (num n g) g)

word_three : (f : ℕ → ℕ → ℕ → Instr) (k b n : ℕ) → k < 16 → b < 16 → n < 65536 → word_operands f (three k b n) ≡ got (f k b n) []
word_three f k b n h g l =
    bind_at (λ k u. bind (next_register u) (λ b v. bind (next_offset v) (λ n w. got (f k b n) w))) (register_at (decimal k) k (num k (omega arith)) (chars ", " ++ two b n) refl h)
    ∙ bind_at (λ b v. bind (next_offset v) (λ n w. got (f k b n) w)) (next_register_at (decimal b) b (num b (omega arith)) (chars ", " ++ decimal n) refl g)
    ∙ bind_at (λ n w. got (f k b n) w) (next_offset_last (decimal n) n (num n (omega arith)) l)

spaced_two : (a b : ℕ) → a < 4294967296 → spaced (two a b) ≡ two a b
spaced_two a b h = spaced_at (decimal a) a (num a h) (chars ", " ++ decimal b)

spaced_three : (a b c : ℕ) → a < 4294967296 → spaced (three a b c) ≡ three a b c
spaced_three a b c h = spaced_at (decimal a) a (num a h) (chars ", " ++ two b c)

-- behind a mnemonic and a space
finish : (o : List ℕ → Got Instr) (t : List ℕ) (i : Instr) → spaced t ≡ t → o t ≡ got i []
    → bind (o (spaced t)) (λ i v. bind (ended v) (λ z w. got i w)) ≡ got i []
unfolding past
finish o t i e f = ap (λ u. bind (o u) (λ i v. bind (ended v) (λ z w. got i w))) e ∙ ap (λ g. bind g (λ i v. bind (ended v) (λ z w. got i w))) f

op_at : (o : ℕ) (t : List ℕ) → o < 10 → operation (op_name o ++ (32 ∷ t)) ≡ got o (32 ∷ t)
unfolding front past
op_at zero t h = refl
op_at (suc zero) t h = refl
op_at (suc (suc zero)) t h = refl
op_at (suc (suc (suc zero))) t h = refl
op_at (suc (suc (suc (suc zero)))) t h = refl
op_at (suc (suc (suc (suc (suc zero))))) t h = refl
op_at (suc (suc (suc (suc (suc (suc zero)))))) t h = refl
op_at (suc (suc (suc (suc (suc (suc (suc zero))))))) t h = refl
op_at (suc (suc (suc (suc (suc (suc (suc (suc zero)))))))) t h = refl
op_at (suc (suc (suc (suc (suc (suc (suc (suc (suc zero))))))))) t h = refl
op_at (suc (suc (suc (suc (suc (suc (suc (suc (suc (suc n)))))))))) t h = absurd (omega arith)

-- what stands before a space and what follows
op_line : (o : ℕ) (t : List ℕ) → o < 10 → every in_line (op_name o ++ t) ≡ every in_line t
op_line zero t h = refl
op_line (suc zero) t h = refl
op_line (suc (suc zero)) t h = refl
op_line (suc (suc (suc zero))) t h = refl
op_line (suc (suc (suc (suc zero)))) t h = refl
op_line (suc (suc (suc (suc (suc zero))))) t h = refl
op_line (suc (suc (suc (suc (suc (suc zero)))))) t h = refl
op_line (suc (suc (suc (suc (suc (suc (suc zero))))))) t h = refl
op_line (suc (suc (suc (suc (suc (suc (suc (suc zero)))))))) t h = refl
op_line (suc (suc (suc (suc (suc (suc (suc (suc (suc zero))))))))) t h = refl
op_line (suc (suc (suc (suc (suc (suc (suc (suc (suc (suc n)))))))))) t h = absurd (omega arith)

op_spaced : (o : ℕ) (t : List ℕ) → o < 10 → spaced (op_name o ++ t) ≡ op_name o ++ t
unfolding past
op_spaced zero t h = refl
op_spaced (suc zero) t h = refl
op_spaced (suc (suc zero)) t h = refl
op_spaced (suc (suc (suc zero))) t h = refl
op_spaced (suc (suc (suc (suc zero)))) t h = refl
op_spaced (suc (suc (suc (suc (suc zero))))) t h = refl
op_spaced (suc (suc (suc (suc (suc (suc zero)))))) t h = refl
op_spaced (suc (suc (suc (suc (suc (suc (suc zero))))))) t h = refl
op_spaced (suc (suc (suc (suc (suc (suc (suc (suc zero)))))))) t h = refl
op_spaced (suc (suc (suc (suc (suc (suc (suc (suc (suc zero))))))))) t h = refl
op_spaced (suc (suc (suc (suc (suc (suc (suc (suc (suc (suc n)))))))))) t h = absurd (omega arith)

comparison_at : (c : ℕ) (t : List ℕ) → c < 4 → comparison (comparison_name c ++ (32 ∷ t)) ≡ got (Some c) (32 ∷ t)
unfolding front past
comparison_at zero t h = refl
comparison_at (suc zero) t h = refl
comparison_at (suc (suc zero)) t h = refl
comparison_at (suc (suc (suc zero))) t h = refl
comparison_at (suc (suc (suc (suc n)))) t h = absurd (omega arith)

comparison_line : (c : ℕ) (t : List ℕ) → c < 4 → every in_line (comparison_name c ++ t) ≡ every in_line t
comparison_line zero t h = refl
comparison_line (suc zero) t h = refl
comparison_line (suc (suc zero)) t h = refl
comparison_line (suc (suc (suc zero))) t h = refl
comparison_line (suc (suc (suc (suc n)))) t h = absurd (omega arith)

comparison_spaced : (c : ℕ) (t : List ℕ) → c < 4 → spaced (comparison_name c ++ t) ≡ comparison_name c ++ t
unfolding past
comparison_spaced zero t h = refl
comparison_spaced (suc zero) t h = refl
comparison_spaced (suc (suc zero)) t h = refl
comparison_spaced (suc (suc (suc zero))) t h = refl
comparison_spaced (suc (suc (suc (suc n)))) t h = absurd (omega arith)

reckon_two : (o k j : ℕ) → o < 10 → k < 16 → j < 16 → reckon_operands (op_name o ++ (chars " " ++ two k j)) ≡ got (reckon o k j) []
unfolding past
reckon_two o k j l h g =
    bind_at (λ o s. bind (register (spaced s)) (λ k u. bind (next_register u) (λ j v. got (reckon o k j) v))) (op_at o (two k j) l)
    ∙ ap (λ s. bind (register s) (λ k u. bind (next_register u) (λ j v. got (reckon o k j) v))) (spaced_two k j (omega arith))
    ∙ bind_at (λ k u. bind (next_register u) (λ j v. got (reckon o k j) v)) (register_at (decimal k) k (num k (omega arith)) (chars ", " ++ decimal j) refl h)
    ∙ bind_at (λ j v. got (reckon o k j) v) (next_register_last (decimal j) j (num j (omega arith)) g)

jump_three : (c k j n : ℕ) → c < 4 → k < 16 → j < 16 → n < 65536 → jump_operands [] (comparison_name c ++ (chars " " ++ three k j n)) ≡ got (jump_if c k j n) []
unfolding past
jump_three c k j n l h g m =
    bind_at (jump_by []) (comparison_at c (three k j n) l)
    ∙ ap (λ s. bind (register s) (λ k u. bind (next_register u) (λ j v. bind (place [] (separated v)) (λ n w. got (jump_if c k j n) w)))) (spaced_three k j n (omega arith))
    ∙ bind_at (λ k u. bind (next_register u) (λ j v. bind (place [] (separated v)) (λ n w. got (jump_if c k j n) w))) (register_at (decimal k) k (num k (omega arith)) (chars ", " ++ two j n) refl h)
    ∙ bind_at (λ j v. bind (place [] (separated v)) (λ n w. got (jump_if c k j n) w)) (next_register_at (decimal j) j (num j (omega arith)) (chars ", " ++ decimal n) refl g)
    ∙ bind_at (λ n w. got (jump_if c k j n) w) (next_place_last (decimal n) n (num n (omega arith)) m)

place_one : (f : ℕ → Instr) (n : ℕ) → n < 65536 → to_place [] f (decimal n) ≡ got (f n) []
place_one f n h = bind_at (λ k u. got (f k) u) (place_last (decimal n) n (num n (omega arith)) h)

jump_one : (n : ℕ) → n < 65536 → jump_operands [] (decimal n) ≡ got (jump n) []
jump_one n h = bind_at (jump_by []) (comparison_last (decimal n) n (num n (omega arith))) ∙ place_one jump n h

register_one : (f : ℕ → Instr) (k : ℕ) → k < 16 → one_register f (decimal k) ≡ got (f k) []
register_one f k h = bind_at (λ k u. got (f k) u) (register_last (decimal k) k (num k (omega arith)) h)

spaced_one : (n : ℕ) → n < 4294967296 → spaced (decimal n) ≡ decimal n
spaced_one n h = spaced_last (decimal n) n (num n h)

-- a line that is read back: it has no label, is not empty, ends at its end, and is that instruction
pub record ReadsBack (i : Instr) : Type 0 where
  pub bare : label (instr_text i) ≡ got None (instr_text i)
  pub full : over (instr_text i) ≡ false
  pub reads : instruction [] (instr_text i) ≡ got i []
  pub line : every in_line (instr_text i) ≡ true

pub reads_back : (i : Instr) → an_instr i ≡ true → ReadsBack i
unfolding an_instr instruction front past
reads_back (load_number k n) h =
    let a : k < 16 = grind (arith, nat_tests) in
    let b : n < 4294967296 = grind (arith, nat_tests) in
    record { bare = refl; full = refl; reads = finish load_operands (two k n) (load_number k n) (spaced_two k n (omega arith)) (load_two k n a b); line = two_line k n (omega arith) b }
reads_back (copy k j) h =
    let a : k < 16 = grind (arith, nat_tests) in
    let b : j < 16 = grind (arith, nat_tests) in
    record { bare = refl; full = refl; reads = finish copy_operands (two k j) (copy k j) (spaced_two k j (omega arith)) (copy_two k j a b); line = two_line k j (omega arith) (omega arith) }
reads_back (reckon o k j) h =
    let l : o < 10 = grind (arith, nat_tests) in
    let a : k < 16 = grind (arith, nat_tests) in
    let b : j < 16 = grind (arith, nat_tests) in
    record {
      bare = refl;
      full = refl;
      reads = finish reckon_operands (op_name o ++ (chars " " ++ two k j)) (reckon o k j) (op_spaced o (chars " " ++ two k j) l) (reckon_two o k j l a b);
      line = op_line o (chars " " ++ two k j) l ∙ two_line k j (omega arith) (omega arith);
    }
reads_back (read k b n) h =
    let a : k < 16 = grind (arith, nat_tests) in
    let g : b < 16 = grind (arith, nat_tests) in
    let l : n < 65536 = grind (arith, nat_tests) in
    record { bare = refl; full = refl; reads = finish (word_operands read) (three k b n) (read k b n) (spaced_three k b n (omega arith)) (word_three read k b n a g l); line = three_line k b n (omega arith) (omega arith) (omega arith) }
reads_back (write k b n) h =
    let a : k < 16 = grind (arith, nat_tests) in
    let g : b < 16 = grind (arith, nat_tests) in
    let l : n < 65536 = grind (arith, nat_tests) in
    record { bare = refl; full = refl; reads = finish (word_operands write) (three k b n) (write k b n) (spaced_three k b n (omega arith)) (word_three write k b n a g l); line = three_line k b n (omega arith) (omega arith) (omega arith) }
reads_back (jump n) h =
    let l : n < 65536 = grind (arith, nat_tests) in
    record { bare = refl; full = refl; reads = finish (jump_operands []) (decimal n) (jump n) (spaced_one n (omega arith)) (jump_one n l); line = line_last n (omega arith) }
reads_back (jump_if c k j n) h =
    let m : c < 4 = grind (arith, nat_tests) in
    let a : k < 16 = grind (arith, nat_tests) in
    let g : j < 16 = grind (arith, nat_tests) in
    let l : n < 65536 = grind (arith, nat_tests) in
    record {
      bare = refl;
      full = refl;
      reads = finish (jump_operands []) (comparison_name c ++ (chars " " ++ three k j n)) (jump_if c k j n) (comparison_spaced c (chars " " ++ three k j n) m) (jump_three c k j n m a g l);
      line = comparison_line c (chars " " ++ three k j n) m ∙ three_line k j n (omega arith) (omega arith) (omega arith);
    }
reads_back (call n) h =
    let l : n < 65536 = grind (arith, nat_tests) in
    record { bare = refl; full = refl; reads = finish (to_place [] call) (decimal n) (call n) (spaced_one n (omega arith)) (place_one call n l); line = line_last n (omega arith) }
reads_back return h = record { bare = refl; full = refl; reads = refl; line = refl }
reads_back (take_in k) h =
    let a : k < 16 = grind (arith, nat_tests) in
    record { bare = refl; full = refl; reads = finish (one_register take_in) (decimal k) (take_in k) (spaced_one k (omega arith)) (register_one take_in k a); line = line_last k (omega arith) }
reads_back (put_out k) h =
    let a : k < 16 = grind (arith, nat_tests) in
    record { bare = refl; full = refl; reads = finish (one_register put_out) (decimal k) (put_out k) (spaced_one k (omega arith)) (register_one put_out k a); line = line_last k (omega arith) }
reads_back halt h = record { bare = refl; full = refl; reads = refl; line = refl }
