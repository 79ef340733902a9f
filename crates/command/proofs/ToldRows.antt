-- Where the instructions of a load and the numbers of a give stand in a text that says it: behind the first byte and their count.
use Rattle.std.proofs.Common.{◌≡◌, ℕ, ◌≤◌, Bool, true, List, [], ◌∷◌, length, drop, sym, ap, ◌∙◌, append-nil}
use Rattle.std.proofs.lemmas.Bool.{and_parts, leb-true}
use Rattle.command.specs.Machine.{every, flat, in_bytes, eight, Instr}
use Rattle.command.specs.Plain.{load, give, spelled, fits, instr_spelled, an_instr, a_word}
use Rattle.command.specs.Reader.{got, Reader, so_many, counted, instr, word, Says}
use Rattle.command.specs.Told.{listed, program_in, numbers_in}
use Rattle.command.proofs.Readers.{Exact, so_many_forth}
use Rattle.command.proofs.Digits.{w_counted, ok_counted}
use Rattle.command.proofs.Spellings.{exact_instr, exact_word, exact_load, exact_give}

module _ {A : Type 0} (w : A → List ℕ) (ok : A → Bool) (r : Reader A) (inside : List ℕ → List A) where
  pub record ToldRow (text : List ℕ) (xs : List A) : Type 0 where
    pub row : drop 9 text ≡ flat w xs
    pub one_by_one : so_many r (length xs) (drop 9 text) ≡ got xs []
    pub listed : inside (drop 1 text) ≡ xs
    pub few : length xs ≤ 4096
    pub fit : every ok xs ≡ true

behind_count : {A : Type 0} (w : A → List ℕ) (k : ℕ) (xs : List A) (text : List ℕ) → k ∷ w_counted w xs ≡ text → drop 9 text ≡ flat w xs
unfolding in_bytes
behind_count w k xs text e = sym (ap (drop 9) e)

module _ {A : Type 0} (w : A → List ℕ) (ok : A → Bool) (r : Reader A) (k : ℕ) (xs : List A) (text : List ℕ) (e : k ∷ w_counted w xs ≡ text) where
  one_by_one_of : Exact w ok r → every ok xs ≡ true → so_many r (length xs) (drop 9 text) ≡ got xs []
  one_by_one_of x h = ap (so_many r (length xs)) (behind_count w k xs text e ∙ sym (append-nil (flat w xs))) ∙ so_many_forth w ok x xs [] h

  listed_of : Exact (w_counted w) (ok_counted 4096 ok) (counted 4096 r) → ok_counted 4096 ok xs ≡ true → listed (counted 4096 r (drop 1 text)) ≡ xs
  listed_of x h = ap (λ t. listed (counted 4096 r t)) (sym (ap (drop 1) e) ∙ sym (append-nil (w_counted w xs))) ∙ ap listed (x.forth xs [] h)

pub load_told : (text : List ℕ) (is : List Instr) → Says text (load is) → ToldRow instr_spelled an_instr instr program_in text is
unfolding spelled fits program_in
load_told text is (e, h) =
    let p = and_parts _ _ h in
    record {
      row = behind_count instr_spelled 1 is text e;
      one_by_one = one_by_one_of instr_spelled an_instr instr 1 is text e exact_instr p.1;
      listed = listed_of instr_spelled an_instr instr 1 is text e exact_load h;
      few = leb-true _ _ p.0;
      fit = p.1;
    }

pub give_told : (text : List ℕ) (vs : List ℕ) → Says text (give vs) → ToldRow eight a_word word numbers_in text vs
unfolding spelled fits numbers_in
give_told text vs (e, h) =
    let p = and_parts _ _ h in
    record {
      row = behind_count eight 2 vs text e;
      one_by_one = one_by_one_of eight a_word word 2 vs text e exact_word p.1;
      listed = listed_of eight a_word word 2 vs text e exact_give h;
      few = leb-true _ _ p.0;
      fit = p.1;
    }
