-- Instructions that are listed with labels assemble to themselves. Assumes nothing.
use Rattle.std.proofs.Common.{◌≡◌, ℕ, zero, suc, ◌<◌, Bool, true, false, not, eqb, List, [], ◌∷◌, ◌++◌, length, get_or, Some, None, Ok, codes as chars, decimal, Option, Result, unwrap_or, sym, refl, ap, ◌∙◌, ⊎_elim, append-nil, arith}
use Rattle.std.proofs.lemmas.Bool.{and_parts, cases_Bool, eqb-true}
use Rattle.std.proofs.lemmas.Bool.Decides.{nat_tests}
use Rattle.std.specs.Option.{ok_or}
use Rattle.std.specs.Str.{bytes_eq}
use Rattle.command.specs.Machine.{pick, or, every, Instr, load_number, copy, reckon, read, write, jump, jump_if, call, return, take_in, put_out, halt}
use Rattle.command.specs.Plain.{an_instr}
use Rattle.assembler.specs.declared.mistakes.Expected.{Expected}
use Rattle.assembler.specs.declared.mistakes.Expected.TheVariants as expected
use Rattle.assembler.specs.Words.{digit, letter, blank, front, past, word, past_word, spaced, separated, a_name, number_below}
use Rattle.assembler.specs.Names.{comparison_name, comparison_named}
use Rattle.assembler.specs.Reading.{Got, got, bind, meant, ended}
use Rattle.assembler.specs.Instructions.{Label, place_of, place_named, register, next_register, place, comparison, below, if_named, jump_by, jump_operands, to_place, instruction}
use Rattle.assembler.proofs.Runs.{front_on, past_on, past_off}
use Rattle.assembler.proofs.Numerals.{Numeral, numeral, number_reads, word_digits, past_digits, spaced_at, spaced_last, register_at, next_register_at, comparison_last}
use Rattle.assembler.proofs.Back.{reads_back}
use Rattle.listing.specs.Labels.{name_of, place_text}
use Rattle.listing.specs.Statements.{Clear, NamedBack}

-- a text that is read as a place, and as no comparison
record Placed (ls : List Label) (k : ℕ) (p : List ℕ) : Type 0 where
  near : spaced p ≡ p
  read_as : place ls p ≡ got k []
  bare : comparison p ≡ got None p

-- names: the bytes of a name, and those of any word
abbrev of_name : ℕ → Bool
of_name b = or (letter b) (digit b)

abbrev of_word : ℕ → Bool
of_word b = not (or (blank b) (or (eqb b 44) (or (eqb b 58) (eqb b 35))))

name_word : (b : ℕ) → of_name b ≡ true → of_word b ≡ true
name_word b e = grind (arith, nat_tests)

letter_blank : (b : ℕ) → letter b ≡ true → blank b ≡ false
letter_blank b e = grind (arith, nat_tests)

name_front : (w : List ℕ) → length (past of_name w) ≡ 0 → word w ≡ w
unfolding front past
name_front [] h = refl
name_front (b ∷ bs) h =
    ⊎_elim (λ (e : of_name b ≡ true). front_on of_word b bs (name_word b e) ∙ ap (λ u. b ∷ u) (name_front bs (simp e at h)))
    (λ (e : of_name b ≡ false). absurd (omega (arith, simp e at h))) (cases_Bool (of_name b))

name_past : (w : List ℕ) → length (past of_name w) ≡ 0 → past_word w ≡ []
unfolding past
name_past [] h = refl
name_past (b ∷ bs) h =
    ⊎_elim (λ (e : of_name b ≡ true). past_on of_word b bs (name_word b e) ∙ name_past bs (simp e at h))
    (λ (e : of_name b ≡ false). absurd (omega (arith, simp e at h))) (cases_Bool (of_name b))

name_near : (w : List ℕ) → letter (get_or w 0 0) ≡ true → spaced w ≡ w
unfolding past
name_near [] h = refl
name_near (b ∷ bs) h = past_off blank b bs (letter_blank b h)

-- a word that is the whole text
abbrev compared : List ℕ → List ℕ → List ℕ → Got (Option ℕ)
compared v t u = pick (bytes_eq v (chars "not")) (below (spaced u)) (if_named (comparison_named v) t u)

name_placed : (ls : List Label) (k : ℕ) (w : List ℕ) → a_name w ≡ true → place_of ls w ≡ Some k → comparison_named w ≡ None → bytes_eq w (chars "not") ≡ false → Placed ls k w
name_placed ls k w h a c n =
    let p = and_parts (letter (get_or w 0 0)) (eqb (length (past of_name w)) 0) h in
    let z = eqb-true (length (past of_name w)) 0 p.1 in
    let f = name_front w z in
    let g = name_past w z in
    let e : place_named ls w ≡ Ok k = ap (λ (b : Bool). pick b (ok_or (place_of ls w) expected.KnownLabel) (ok_or (number_below 65536 w) expected.Place)) h ∙ ap (λ (o : Option ℕ). ok_or o expected.KnownLabel) a in
    record {
      near = name_near w p.0;
      read_as = (λ i. meant (place_named ls (f i)) w (g i)) ∙ ap (λ (o : Result ℕ Expected). meant o w []) e;
      bare = (λ i. compared (f i) w (g i)) ∙ ap (λ (b : Bool). pick b (below (spaced [])) (if_named (comparison_named w) w [])) n ∙ ap (λ (o : Option ℕ). if_named o w []) c;
    }

-- numbers
digit_letter : (b : ℕ) → digit b ≡ true → letter b ≡ false
digit_letter b e = grind (arith, nat_tests)

number_named : (ls : List Label) (w : List ℕ) (k : ℕ) → Numeral w k → k < 65536 → place_named ls w ≡ Ok k
number_named ls [] k x h = absurd (let s = x.some in omega arith)
number_named ls (b ∷ bs) k x h =
    let a = and_parts (digit b) (every digit bs) x.all in
    rw (digit_letter b a.0) (ap (λ (o : Option ℕ). ok_or o expected.Place) (number_reads (b ∷ bs) k 65536 x h))

number_placed : (ls : List Label) (k : ℕ) → k < 65536 → Placed ls k (decimal k)
number_placed ls k h =
    let x = numeral k (omega arith) in
    let w = decimal k in
    record {
      near = spaced_last w k x;
      read_as =
          ap (place ls) (sym (append-nil w))
          ∙ (λ i. meant (place_named ls (word_digits w [] tt x.all i)) (w ++ []) (past_digits w [] tt x.all i))
          ∙ ap (λ (o : Result ℕ Expected). meant o (w ++ []) []) (number_named ls w k x h);
      bare = comparison_last w k x;
    }

placed_by : (ls : List Label) (k : ℕ) → Clear ls → k < 65536 → (o : Option (List ℕ)) → name_of ls k ≡ o → Placed ls k (unwrap_or o (decimal k))
placed_by ls k c h None e = number_placed ls k h
placed_by ls k c h (Some w) e = name_placed ls k w (c.named k w e) (c.alone k w e) (c.unequal k w e) (c.unnot k w e)

placed : (ls : List Label) (k : ℕ) → Clear ls → k < 65536 → Placed ls k (place_text ls k)
placed ls k c h = placed_by ls k c h (name_of ls k) refl

-- operands
bind_at : {A B : Type 0} {g : Got A} {a : A} {t : List ℕ} (f : A → List ℕ → Got B) → g ≡ got a t → bind g f ≡ f a t
bind_at f e = ap (λ g. bind g f) e

finish : (o : List ℕ → Got Instr) (t : List ℕ) (i : Instr) → spaced t ≡ t → o t ≡ got i []
    → bind (o (spaced t)) (λ i v. bind (ended v) (λ z w. got i w)) ≡ got i []
unfolding past
finish o t i e f = ap (λ u. bind (o u) (λ i v. bind (ended v) (λ z w. got i w))) e ∙ ap (λ g. bind g (λ i v. bind (ended v) (λ z w. got i w))) f

to_place_at : (ls : List Label) (f : ℕ → Instr) (k : ℕ) (p : List ℕ) → Placed ls k p → to_place ls f p ≡ got (f k) []
to_place_at ls f k p x = bind_at (λ k u. got (f k) u) x.read_as

jump_at : (ls : List Label) (k : ℕ) (p : List ℕ) → Placed ls k p → jump_operands ls p ≡ got (jump k) []
jump_at ls k p x = bind_at (jump_by ls) x.bare ∙ to_place_at ls jump k p x

comparison_at : (c : ℕ) (t : List ℕ) → c < 4 → comparison (comparison_name c ++ (32 ∷ t)) ≡ got (Some c) (32 ∷ t)
unfolding front past
comparison_at zero t h = refl
comparison_at (suc zero) t h = refl
comparison_at (suc (suc zero)) t h = refl
comparison_at (suc (suc (suc zero))) t h = refl
comparison_at (suc (suc (suc (suc n)))) t h = absurd (omega arith)

comparison_near : (c : ℕ) (t : List ℕ) → c < 4 → spaced (comparison_name c ++ t) ≡ comparison_name c ++ t
unfolding past
comparison_near zero t h = refl
comparison_near (suc zero) t h = refl
comparison_near (suc (suc zero)) t h = refl
comparison_near (suc (suc (suc zero))) t h = refl
comparison_near (suc (suc (suc (suc n)))) t h = absurd (omega arith)

abbrev operands_text : ℕ → ℕ → List ℕ → List ℕ
operands_text k j p = decimal k ++ (chars ", " ++ (decimal j ++ (chars ", " ++ p)))

jump_if_at : (ls : List Label) (c k j n : ℕ) (p : List ℕ) → c < 4 → k < 16 → j < 16 → Placed ls n p
    → jump_operands ls (comparison_name c ++ (chars " " ++ operands_text k j p)) ≡ got (jump_if c k j n) []
unfolding past
jump_if_at ls c k j n p l h g x =
    bind_at (jump_by ls) (comparison_at c (operands_text k j p) l)
    ∙ ap (λ s. bind (register s) (λ k u. bind (next_register u) (λ j v. bind (place ls (separated v)) (λ n w. got (jump_if c k j n) w)))) (spaced_at (decimal k) k (numeral k (omega arith)) (chars ", " ++ (decimal j ++ (chars ", " ++ p))))
    ∙ bind_at (λ k u. bind (next_register u) (λ j v. bind (place ls (separated v)) (λ n w. got (jump_if c k j n) w))) (register_at (decimal k) k (numeral k (omega arith)) (chars ", " ++ (decimal j ++ (chars ", " ++ p))) refl h)
    ∙ bind_at (λ j v. bind (place ls (separated v)) (λ n w. got (jump_if c k j n) w)) (next_register_at (decimal j) j (numeral j (omega arith)) (chars ", " ++ p) refl g)
    ∙ ap (λ t. bind (place ls t) (λ n w. got (jump_if c k j n) w)) x.near
    ∙ bind_at (λ n w. got (jump_if c k j n) w) x.read_as

pub named_back : NamedBack
unfolding an_instr instruction front past
named_back ls (load_number k n) c h = (reads_back (load_number k n) h).reads
named_back ls (copy k j) c h = (reads_back (copy k j) h).reads
named_back ls (reckon o k j) c h = (reads_back (reckon o k j) h).reads
named_back ls (read k b n) c h = (reads_back (read k b n) h).reads
named_back ls (write k b n) c h = (reads_back (write k b n) h).reads
named_back ls (jump n) c h =
    let l : n < 65536 = grind (arith, nat_tests) in
    let x = placed ls n c l in
    finish (jump_operands ls) (place_text ls n) (jump n) x.near (jump_at ls n (place_text ls n) x)
named_back ls (jump_if d k j n) c h =
    let m : d < 4 = grind (arith, nat_tests) in
    let a : k < 16 = grind (arith, nat_tests) in
    let g : j < 16 = grind (arith, nat_tests) in
    let l : n < 65536 = grind (arith, nat_tests) in
    let p = place_text ls n in
    finish (jump_operands ls) (comparison_name d ++ (chars " " ++ operands_text k j p)) (jump_if d k j n) (comparison_near d (chars " " ++ operands_text k j p) m)
    (jump_if_at ls d k j n p m a g (placed ls n c l))
named_back ls (call n) c h =
    let l : n < 65536 = grind (arith, nat_tests) in
    let x = placed ls n c l in
    finish (to_place ls call) (place_text ls n) (call n) x.near (to_place_at ls call n (place_text ls n) x)
named_back ls return c h = refl
named_back ls (take_in k) c h = (reads_back (take_in k) h).reads
named_back ls (put_out k) c h = (reads_back (put_out k) h).reads
named_back ls halt c h = refl
