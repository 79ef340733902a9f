-- What was looked at, at the front of a row.
use Rattle.std.proofs.Common.{◌≡◌, ℕ, zero, suc, ◌+◌, ◌<◌, ◌≤◌, Bool, true, false, List, [], ◌∷◌, ◌++◌, length, take, drop, set, Ok, Err, Result, replicate, sym, refl, ap, ◌∙◌, subst, arith}
use Rattle.std.proofs.Math.Seq.{take-append_seam}
use Rattle.std.proofs.lemmas.List.{length-take, length-replicate, length-drop, take_all}
use Rattle.std.specs.Result.{OkIff, result_ok}
use Rattle.std.proofs.lemmas.Bool.{lt-ltb, le-ltb}
use Rattle.std.proofs.lemmas.Result.{OkIff-at_ok, OkIff-at_err}
use Rattle.command.specs.Machine.{every, each, pick}
use Rattle.command.specs.Plain.{a_word}
use Rattle.command.specs.Reader.{Got, nothing, got, bind, first, so_many}
use Rattle.command.specs.Taken.{itself, Takes}
use Rattle.driver.specs.Rows.{one_word}

pub two_set : (xs : List ℕ) (a b : ℕ) → 2 ≤ length xs → take 2 (set (set xs 0 a) 1 b) ≡ a ∷ b ∷ []
two_set [] a b h = absurd (omega (arith, h))
two_set (x ∷ []) a b h = absurd (omega (arith, h))
two_set (x ∷ y ∷ xs) a b h = refl

-- a list copied to the front of a row
pub copied_front : (n : ℕ) (xs rest ys : List ℕ) → length xs ≡ n → xs ≡ ys → take n (xs ++ rest) ≡ ys
copied_front n xs rest ys h e = ap (λ k. take k (xs ++ rest)) (sym h) ∙ (take-append_seam xs rest ∙ e)

pub front_length : {A : Type 0} (n : ℕ) (xs : List A) → n ≤ length xs → length (take n xs) ≡ n
front_length n xs h = let l = length-take n xs in omega arith

pub rest_all : (n : ℕ) (row : List ℕ) → length row ≡ n + 1 → take n (drop 1 row) ≡ drop 1 row
rest_all n row h = take_all n (drop 1 row) (let l = length-drop 1 row in omega arith)

-- the front of a row of blanks
pub blank_length : {A : Type 0} (n k : ℕ) (x : A) → n ≤ k → length (take n (replicate k x)) ≡ n
blank_length n k x h = front_length n (replicate k x) (omega (arith, length-replicate k x, h))

-- NUMBERS, one by one: the front of the row, or one of them is no word
abbrev pub Words : ℕ → (row : List ℕ) → Got (List ℕ) → Type 0
Words n row nothing = every a_word (take n row) ≡ false
Words n row (got xs u) = take n row ≡ xs

module _ (n b : ℕ) (t : List ℕ) where
  one_more : (g : Got (List ℕ)) → Words n t g → a_word b ≡ true → Words (suc n) (b ∷ t) (bind g (λ xs v. got (b ∷ xs) v))
  one_more nothing h e = rw e h
  one_more (got xs u) h e = ap (λ l. b ∷ l) h

  by_word : (k : Bool) → a_word b ≡ k → Words n t (so_many one_word n t) → Words (suc n) (b ∷ t) (bind (pick k (got b t) nothing) (λ a u. bind (so_many one_word n u) (λ xs v. got (a ∷ xs) v)))
  by_word true e h = one_more (so_many one_word n t) h e
  by_word false e h = rw e refl

words : (n : ℕ) (row : List ℕ) → n ≤ length row → Words n row (so_many one_word n row)
unfolding so_many first
words zero row h = refl
words (suc n) [] h = absurd (omega (arith, h))
words (suc n) (b ∷ t) h = by_word n b t (a_word b) refl (words n t (omega (arith, h)))

pub words_all : (n : ℕ) (row : List ℕ) {xs u : List ℕ} → n ≤ length row → so_many one_word n row ≡ got xs u → take n row ≡ xs
words_all n row h e = subst (Words n row) e (words n row h)

pub words_wide : (n : ℕ) (row : List ℕ) → n ≤ length row → so_many one_word n row ≡ nothing → every a_word (take n row) ≡ false
words_wide n row h e = subst (Words n row) e (words n row h)

pub each_same : (xs : List ℕ) → each itself xs ≡ xs
each_same [] = refl
each_same (x ∷ xs) = ap (λ l. x ∷ l) (each_same xs)

-- one number, as the code takes it
pub none_left : (row : List ℕ) → length row ≡ 0 → one_word row ≡ nothing
unfolding first
none_left [] h = refl
none_left (x ∷ xs) h = absurd (omega (arith, h))

pub word_taken : {E : Type 0} (r : Result ℕ E) (n : ℕ) (rest row : List ℕ) → row ≡ n ∷ rest → OkIff r (n < 4294967296) n → Takes itself (one_word row) (result_ok r) rest
unfolding first
word_taken {E} (Ok x) n rest row e h =
    let k = OkIff-at_ok {E = E} (Ok x) (n < 4294967296) n x h refl in rw (e, lt-ltb n 4294967296 k.0) (ap (λ m. got m rest) (sym k.1))
word_taken {E} (Err d) n rest row e h = rw (e, le-ltb n 4294967296 (omega (arith, OkIff-at_err {E = E} (Err d) (n < 4294967296) n d h refl))) refl
