-- What stands where in a text that says a load or a give.
use Rattle.std.proofs.Common.{◌≡◌, ℕ, suc, ◌+◌, ◌-◌, ◌*◌, ◌<◌, ◌≤◌, true, leb, List, [], ◌∷◌, ◌++◌, length, get_or, take, drop, set, Some, None, Option, sym, refl, ap, ◌∙◌, subst, arith, length-append}
use Rattle.std.proofs.lemmas.List.{drop_at, at_drop_more, take_more, take_more_set, take_all}
use Rattle.std.proofs.lemmas.Slice.{between_to_end}
use Rattle.std.proofs.lemmas.Bool.{and_parts, leb-true}
use Rattle.command.specs.Machine.{eight, flat, every, Instr, load_number, copy, reckon, read, write, jump, jump_if, call, return, take_in, put_out, halt}
use Rattle.command.specs.Plain.{load, give, spelled, fits, instr_spelled, an_instr, a_word}
use Rattle.command.specs.Reader.{Says, got, word}
use Rattle.command.specs.Taken.{Takes, itself}
use Rattle.command.proofs.Digits.{exact_below}
use Rattle.command.proofs.Every.{every_at}
use Rattle.machine.specs.Entry.{on_row}
use Rattle.machine.proofs.Rows.{length_eight}

-- the part of a text behind its first byte and a count, as the code has it
abbrev pub behind : List ℕ → List ℕ
behind t = take (length t - 9) (drop 9 t)

behind_is : (t : List ℕ) (k n : ℕ) (xs : List ℕ) → k ∷ eight n ++ xs ≡ t → (length t ≡ 9 + length xs) × (behind t ≡ xs)
behind_is t k n xs e =
    let l : length (k ∷ eight n) ≡ 9 = ap suc (length_eight n) in
    let s : length t ≡ 9 + length xs = sym (ap length e) ∙ (length-append (k ∷ eight n) xs ∙ ap (λ j. j + length xs) l) in
    (s, between_to_end t 9 (length t) (omega arith) ∙ (sym (ap (drop 9) e) ∙ drop_at (k ∷ eight n) xs 9 l))

-- an instruction has twelve bytes at most
instr_few : (i : Instr) → length (instr_spelled i) ≤ 12
unfolding instr_spelled
instr_few (load_number k n) = omega (arith, length_eight n)
instr_few (copy k j) = omega arith
instr_few (reckon o k j) = omega arith
instr_few (read k b n) = omega (arith, length_eight n)
instr_few (write k b n) = omega (arith, length_eight n)
instr_few (jump k) = omega (arith, length_eight k)
instr_few (jump_if c k j n) = omega (arith, length_eight n)
instr_few (call k) = omega (arith, length_eight k)
instr_few return = omega arith
instr_few (take_in k) = omega arith
instr_few (put_out k) = omega arith
instr_few halt = omega arith

program_few : (is : List Instr) → length (flat instr_spelled is) ≤ 12 * length is
program_few [] = omega arith
program_few (i ∷ is) = omega (arith, length-append (instr_spelled i) (flat instr_spelled is), instr_few i, program_few is)

pub load_text : (t : List ℕ) (is : List Instr) → Says t (load is) → (length t ≡ 9 + length (flat instr_spelled is)) × (behind t ≡ flat instr_spelled is)
unfolding spelled
load_text t is s = behind_is t 1 (length is) (flat instr_spelled is) s.0

pub load_few : (t : List ℕ) (is : List Instr) → Says t (load is) → length (flat instr_spelled is) ≤ 49152
unfolding fits
load_few t is s = omega (arith, program_few is, leb-true (length is) 4096 (and_parts (leb (length is) 4096) (every an_instr is) s.1).0)

pub give_text : (t vs : List ℕ) → Says t (give vs) → (length t ≡ 9 + length (flat eight vs)) × (behind t ≡ flat eight vs)
unfolding spelled
give_text t vs s = behind_is t 2 (length vs) (flat eight vs) s.0

pub give_few : (t vs : List ℕ) → Says t (give vs) → length vs ≤ 4096
unfolding fits
give_few t vs s = leb-true (length vs) 4096 (and_parts (leb (length vs) 4096) (every a_word vs) s.1).0

give_words : (t vs : List ℕ) → Says t (give vs) → every a_word vs ≡ true
unfolding fits
give_words t vs s = (and_parts (leb (length vs) 4096) (every a_word vs) s.1).1

-- a loop that takes the numbers off one by one
word_next : (t vs : List ℕ) (i : ℕ) (rest : List ℕ) → Says t (give vs) → i < length vs → rest ≡ flat eight (drop i vs) →
    word rest ≡ got (get_or vs i 0) (flat eight (drop (i + 1) vs))
word_next t vs i rest s h e =
    let v : ℕ = get_or vs i 0 in
    let u : List ℕ = flat eight (drop (i + 1) vs) in
    let small : a_word v ≡ true = every_at a_word vs i 0 (give_words t vs s) refl in
    ap word (e ∙ at_drop_more (flat eight) vs i 0 h) ∙ (exact_below 4294967296 (omega arith)).forth v u small

pub word_taken : (t vs : List ℕ) (i : ℕ) (rest rest₁ : List ℕ) (o : Option ℕ) → Says t (give vs) → i < length vs → rest ≡ flat eight (drop i vs) → Takes itself (word rest) o rest₁ →
    (o ≡ Some (get_or vs i 0)) × (rest₁ ≡ flat eight (drop (i + 1) vs))
word_taken t vs i rest rest₁ o s h e w = go o (subst (λ g. Takes itself g o rest₁) (word_next t vs i rest s h e) w)
  where
    go : (o : Option ℕ) → Takes itself (got (get_or vs i 0) (flat eight (drop (i + 1) vs))) o rest₁ → (o ≡ Some (get_or vs i 0)) × (rest₁ ≡ flat eight (drop (i + 1) vs))
    go None w = let z : ◌≡◌ {A = ℕ} 0 1 = cc in absurd (omega arith)
    go (Some n) w = (cc, cc)

-- one more number in its place
pub number_placed : (vs places : List ℕ) (i n : ℕ) (o : Option ℕ) → i < length vs → i < length places → o ≡ Some n → o ≡ Some (get_or vs i 0) → take i places ≡ take i vs → take (i + 1) (set places i n) ≡ take (i + 1) vs
number_placed vs places i n o h k some is p = let e : n ≡ get_or vs i 0 = cc in take_more_set places i n k ∙ (ap (λ x. x ++ n ∷ []) p ∙ (ap (λ x. take i vs ++ x ∷ []) e ∙ sym (take_more vs i 0 h)))

pub numbers_placed : (vs places row : List ℕ) (i n : ℕ) → n ≡ length vs → length places ≡ n → n ≤ i → take i places ≡ take i vs → places ++ drop n row ≡ on_row vs row
numbers_placed vs places row i n e l h p =
    let same : places ≡ vs = sym (take_all i places (omega (arith, l, h))) ∙ (p ∙ take_all i vs (omega (arith, e, h))) in
    ap (λ x. x ++ drop n row) same ∙ ap (λ k. vs ++ drop k row) e
