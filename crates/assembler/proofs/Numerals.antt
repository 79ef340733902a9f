-- Numbers as they are listed, read back. Assumes nothing.
use Rattle.std.proofs.Common.{◌≡◌, ℕ, ◌+◌, ◌*◌, ◌/◌, ◌%◌, ◌^◌, ◌<◌, ◌≤◌, Bool, true, false, ◌&&◌, eqb, List, [], ◌∷◌, ◌++◌, length, Some, None, Ok, codes as chars, decimal, Option, sym, refl, ap, ◌∙◌, ⊎_elim, append_assoc, append-nil, arith, length-append}
use Rattle.std.proofs.lemmas.Fmt.{decimal_by_steps}
use Rattle.std.proofs.lemmas.Bool.{lt-ltb, and_parts, cases_Bool}
use Rattle.std.proofs.lemmas.Bool.Decides.{nat_tests}
use Rattle.std.specs.Option.{ok_or}
use Rattle.std.specs.Str.{bytes_eq}
use Rattle.command.specs.Machine.{pick, every}
use Rattle.assembler.specs.declared.mistakes.Expected.TheVariants as expected
use Rattle.assembler.specs.Words.{digit, letter, blank, in_word, in_line, front, past, word, past_word, spaced, separated, digit_of, value_on, hex_digits, number_below}
use Rattle.assembler.specs.Names.{comparison_named}
use Rattle.assembler.specs.Reading.{Got, got, meant, a_word}
use Rattle.assembler.specs.Instructions.{register_named, place_named, register, next_register, next_number, next_offset, place, comparison, below, if_named}
use Rattle.assembler.proofs.Runs.{front_on, front_off, past_on, past_off}

-- some digits, and nothing else, that write a number
pub record Numeral (w : List ℕ) (n : ℕ) : Type 0 where
  pub all : every digit w ≡ true
  pub some : 0 < length w
  pub value : (limit : ℕ) → n < limit → (u : List ℕ) → value_on 10 limit 0 (w ++ u) ≡ value_on 10 limit n u

pub every_append : {A : Type 0} (p : A → Bool) (xs ys : List A) → every p xs ≡ true → every p (xs ++ ys) ≡ every p ys
every_append p [] ys h = refl
every_append p (x ∷ xs) ys h = let a = and_parts (p x) (every p xs) h in rw a.0 (every_append p xs ys a.1)

pub every_from : {A : Type 0} (p q : A → Bool) → ((x : A) → p x ≡ true → q x ≡ true) → (xs : List A) → every p xs ≡ true → every q xs ≡ true
every_from p q k [] h = refl
every_from p q k (x ∷ xs) h = let a = and_parts (p x) (every p xs) h in rw (k x a.0) (every_from p q k xs a.1)

digit_on : (limit m d : ℕ) (u : List ℕ) → d < 10 → m * 10 + d < limit → value_on 10 limit m ((48 + d) ∷ u) ≡ value_on 10 limit (m * 10 + d) u
unfolding value_on
digit_on limit m d u h k =
    let e : digit_of (48 + d) ≡ d = grind (arith, nat_tests) in
    rw (e, lt-ltb d 10 h, lt-ltb (m * 10 + d) limit k)

digit_is : (d : ℕ) → d < 10 → digit (48 + d) ≡ true
digit_is d h = grind (arith, nat_tests)

one_digit : (n : ℕ) → n < 10 → Numeral ((48 + n) ∷ []) n
one_digit n h = record {
  all = rw (digit_is n h);
  some = omega arith;
  value = λ limit k u. digit_on limit 0 n u h (omega arith) ∙ ap (λ m. value_on 10 limit m u) (let z : 0 * 10 + n ≡ n = omega arith in z);
}

more_digits : (n : ℕ) (ds : List ℕ) → 10 ≤ n → Numeral ds (n / 10) → Numeral (ds ++ ((48 + n % 10) ∷ [])) n
more_digits n ds h x = record {
  all = every_append digit ds ((48 + n % 10) ∷ []) x.all ∙ rw (digit_is (n % 10) (omega arith));
  some = rw length-append (omega arith);
  value = λ limit k u.
      ap (value_on 10 limit 0) (append_assoc ds ((48 + n % 10) ∷ []) u)
      ∙ x.value limit (omega arith) ((48 + n % 10) ∷ u)
      ∙ digit_on limit (n / 10) (n % 10) u (omega arith) (omega arith)
      ∙ ap (λ m. value_on 10 limit m u) (let z : n / 10 * 10 + n % 10 ≡ n = omega arith in z);
}

pub numeral : (n : ℕ) → n < 2 ^ 64 → Numeral (decimal n) n
numeral n h = decimal_by_steps (λ n ds. Numeral ds n) one_digit more_digits n h

-- what follows a word
abbrev pub Stops : List ℕ → Type 0
Stops [] = Unit {0}
Stops (b ∷ bs) = in_word b ≡ false

digit_word : (b : ℕ) → digit b ≡ true → in_word b ≡ true
digit_word b e = grind (arith, nat_tests)

pub digit_line : (b : ℕ) → digit b ≡ true → in_line b ≡ true
digit_line b e = grind (arith, nat_tests)

digit_blank : (b : ℕ) → digit b ≡ true → blank b ≡ false
digit_blank b e = grind (arith, nat_tests)

digit_letter : (b : ℕ) → digit b ≡ true → letter b ≡ false
digit_letter b e = grind (arith, nat_tests)

digit_not : (b c : ℕ) → digit b ≡ true → 57 < c → eqb b c ≡ false
digit_not b c e h = grind (arith, nat_tests)

front_stops : (u : List ℕ) → Stops u → front in_word u ≡ []
unfolding front
front_stops [] s = refl
front_stops (b ∷ bs) s = front_off in_word b bs s

past_stops : (u : List ℕ) → Stops u → past in_word u ≡ u
unfolding past
past_stops [] s = refl
past_stops (b ∷ bs) s = past_off in_word b bs s

module _ (w u : List ℕ) (s : Stops u) where
  pub word_digits : every digit w ≡ true → word (w ++ u) ≡ w
  word_digits h = go w h
    where
      go : (w : List ℕ) → every digit w ≡ true → word (w ++ u) ≡ w
      go [] h = front_stops u s
      go (b ∷ bs) h = let a = and_parts (digit b) (every digit bs) h in front_on in_word b (bs ++ u) (digit_word b a.0) ∙ ap (λ v. b ∷ v) (go bs a.1)

  pub past_digits : every digit w ≡ true → past_word (w ++ u) ≡ u
  past_digits h = go w h
    where
      go : (w : List ℕ) → every digit w ≡ true → past_word (w ++ u) ≡ u
      go [] h = past_stops u s
      go (b ∷ bs) h = let a = and_parts (digit b) (every digit bs) h in past_on in_word b (bs ++ u) (digit_word b a.0) ∙ go bs a.1

pub spaced_digits : (w u : List ℕ) → every digit w ≡ true → 0 < length w → spaced (w ++ u) ≡ w ++ u
spaced_digits [] u h k = absurd (omega arith)
spaced_digits (b ∷ bs) u h k = let a = and_parts (digit b) (every digit bs) h in past_off blank b (bs ++ u) (digit_blank b a.0)

not_hex : (w : List ℕ) → every digit w ≡ true → hex_digits w ≡ None
not_hex [] h = refl
not_hex (b ∷ []) h = ⊎_elim (λ (t : eqb b 48 ≡ true). simp t) (λ (t : eqb b 48 ≡ false). simp t) (cases_Bool (eqb b 48))
not_hex (b ∷ c ∷ cs) h =
    let a = and_parts (digit b) (digit c && every digit cs) h in
    let e = digit_not c 120 (and_parts (digit c) (every digit cs) a.1).0 (omega arith) in
    ⊎_elim (λ (t : eqb b 48 ≡ true). simp (t, e)) (λ (t : eqb b 48 ≡ false). simp t) (cases_Bool (eqb b 48))

pub number_reads : (w : List ℕ) (n limit : ℕ) → Numeral w n → n < limit → number_below limit w ≡ Some n
unfolding value_on
number_reads w n limit x h =
    let e = not_hex w x.all in
    let k : eqb (length w) 0 ≡ false = let s = x.some in grind (arith, nat_tests) in
    let v = ap (value_on 10 limit 0) (sym (append-nil w)) ∙ x.value limit h [] in
    rw (e, k) v

pub register_named_reads : (w : List ℕ) (k : ℕ) → Numeral w k → k < 16 → register_named w ≡ Some k
register_named_reads [] k x h = absurd (let s = x.some in omega arith)
register_named_reads (b ∷ bs) k x h =
    let a = and_parts (digit b) (every digit bs) x.all in
    rw (digit_not b 114 a.0 (omega arith)) (number_reads (b ∷ bs) k 16 x h)

pub place_named_reads : (w : List ℕ) (k : ℕ) → Numeral w k → k < 65536 → place_named [] w ≡ Ok k
place_named_reads [] k x h = absurd (let s = x.some in omega arith)
place_named_reads (b ∷ bs) k x h =
    let a = and_parts (digit b) (every digit bs) x.all in
    rw (digit_letter b a.0) (ap (λ o. ok_or o expected.Place) (number_reads (b ∷ bs) k 65536 x h))

abbrev number_word : List ℕ → Got ℕ
number_word t = a_word expected.Number (number_below 4294967296) t

abbrev offset_word : List ℕ → Got ℕ
offset_word t = a_word expected.Offset (number_below 65536) t

-- what a jump's first word comes to
abbrev compared : List ℕ → List ℕ → List ℕ → Got (Option ℕ)
compared v t u = pick (bytes_eq v (chars "not")) (below (spaced u)) (if_named (comparison_named v) t u)

-- readers at a number, with what follows it
module _ (w : List ℕ) (n : ℕ) (x : Numeral w n) where
  pub spaced_at : (u : List ℕ) → spaced (w ++ u) ≡ w ++ u
  spaced_at u = spaced_digits w u x.all x.some

  pub separated_at : (u : List ℕ) → separated (44 ∷ 32 ∷ (w ++ u)) ≡ w ++ u
  unfolding past
  separated_at u = spaced_at u

  pub register_at : (u : List ℕ) → Stops u → n < 16 → register (w ++ u) ≡ got n u
  register_at u s h =
      (λ i. meant (ok_or (register_named (word_digits w u s x.all i)) expected.Register) (w ++ u) (past_digits w u s x.all i))
      ∙ ap (λ o. meant (ok_or o expected.Register) (w ++ u) u) (register_named_reads w n x h)

  pub next_register_at : (u : List ℕ) → Stops u → n < 16 → next_register (44 ∷ 32 ∷ (w ++ u)) ≡ got n u
  next_register_at u s h = ap register (separated_at u) ∙ register_at u s h

  pub next_number_at : n < 4294967296 → next_number (44 ∷ 32 ∷ (w ++ [])) ≡ got n []
  next_number_at h =
      ap number_word (separated_at []) ∙ (λ i. meant (ok_or (number_below 4294967296 (word_digits w [] tt x.all i)) expected.Number) (w ++ []) (past_digits w [] tt x.all i))
      ∙ ap (λ o. meant (ok_or o expected.Number) (w ++ []) []) (number_reads w n 4294967296 x h)

  pub next_offset_at : n < 65536 → next_offset (44 ∷ 32 ∷ (w ++ [])) ≡ got n []
  next_offset_at h =
      ap offset_word (separated_at []) ∙ (λ i. meant (ok_or (number_below 65536 (word_digits w [] tt x.all i)) expected.Offset) (w ++ []) (past_digits w [] tt x.all i))
      ∙ ap (λ o. meant (ok_or o expected.Offset) (w ++ []) []) (number_reads w n 65536 x h)

  pub place_at : n < 65536 → place [] (w ++ []) ≡ got n []
  place_at h =
      (λ i. meant (place_named [] (word_digits w [] tt x.all i)) (w ++ []) (past_digits w [] tt x.all i))
      ∙ ap (λ o. meant o (w ++ []) []) (place_named_reads w n x h)

  pub next_place_at : n < 65536 → place [] (separated (44 ∷ 32 ∷ (w ++ []))) ≡ got n []
  next_place_at h = ap (place []) (separated_at []) ∙ place_at h

  -- no comparison
  pub comparison_at : comparison (w ++ []) ≡ got None (w ++ [])
  comparison_at = (λ i. compared (word_digits w [] tt x.all i) (w ++ []) (past_digits w [] tt x.all i)) ∙ none w x.all x.some
    where
      none : (v : List ℕ) → every digit v ≡ true → 0 < length v → compared v (w ++ []) [] ≡ got None (w ++ [])
      none [] h k = absurd (omega arith)
      none (b ∷ bs) h k =
          let d = (and_parts (digit b) (every digit bs) h).0 in
          rw (digit_not b 110 d (omega arith), digit_not b 101 d (omega arith), digit_not b 117 d (omega arith), digit_not b 98 d (omega arith))

-- the same at the end of a line
module _ (w : List ℕ) (n : ℕ) (x : Numeral w n) where
  pub spaced_last : spaced w ≡ w
  spaced_last = ap spaced (sym (append-nil w)) ∙ spaced_at w n x [] ∙ append-nil w

  pub register_last : n < 16 → register w ≡ got n []
  register_last h = ap register (sym (append-nil w)) ∙ register_at w n x [] tt h

  pub next_register_last : n < 16 → next_register (44 ∷ 32 ∷ w) ≡ got n []
  next_register_last h = ap (λ v. next_register (44 ∷ 32 ∷ v)) (sym (append-nil w)) ∙ next_register_at w n x [] tt h

  pub next_number_last : n < 4294967296 → next_number (44 ∷ 32 ∷ w) ≡ got n []
  next_number_last h = ap (λ v. next_number (44 ∷ 32 ∷ v)) (sym (append-nil w)) ∙ next_number_at w n x h

  pub next_offset_last : n < 65536 → next_offset (44 ∷ 32 ∷ w) ≡ got n []
  next_offset_last h = ap (λ v. next_offset (44 ∷ 32 ∷ v)) (sym (append-nil w)) ∙ next_offset_at w n x h

  pub place_last : n < 65536 → place [] w ≡ got n []
  place_last h = ap (place []) (sym (append-nil w)) ∙ place_at w n x h

  pub next_place_last : n < 65536 → place [] (separated (44 ∷ 32 ∷ w)) ≡ got n []
  next_place_last h = ap (λ v. place [] (separated (44 ∷ 32 ∷ v))) (sym (append-nil w)) ∙ next_place_at w n x h

  pub comparison_last : comparison w ≡ got None w
  comparison_last = ap comparison (sym (append-nil w)) ∙ comparison_at w n x ∙ ap (λ v. got None v) (append-nil w)
