-- What is typed in full is read back. Assumes nothing.
use Rattle.std.proofs.Common.{◌≡◌, ℕ, ◌+◌, ◌*◌, ◌/◌, ◌%◌, ◌^◌, ◌<◌, ◌≤◌, true, false, cond, eqb, List, [], ◌∷◌, ◌++◌, length, take, drop, Some, None, codes, decimal, Option, sym, refl, ap, ◌∙◌, arith, length-append}
use Rattle.std.specs.List.{prefix_len}
use Rattle.std.proofs.lemmas.List.{append-nil, take_at, drop_at}
use Rattle.std.proofs.lemmas.Fmt.{decimal_by_steps}
use Rattle.std.proofs.lemmas.Bool.Decides.{nat_tests}
use Rattle.std.proofs.lemmas.Bool.{le-leb}
use Rattle.prompt.specs.Words.{is_blank, in_word, trimmed, word, behind}
use Rattle.scan.specs.Numbers.{onward, digit, put_behind, longer, digits, is_hexadecimal, number}
use Rattle.prompt.specs.Numbers.{most_of}
use Rattle.prompt.specs.Verbs.{choice}
use Rattle.prompt.specs.Requests.{Got, got, slip, bind, or_slip, unless_over, a_number, as_two, Asked, forward, words, outs, Answer, right, answer}
use Rattle.prompt.specs.Statements.{SpelledOut, TypedBack, spaced}
use Rattle.prompt.specs.declared.verbs.Verb.TheVariants.{Load, Give, Forward, Where, Registers, Words, Outs, Help, Quit}
use Rattle.prompt.specs.declared.quantities.Quantity.{Quantity}
use Rattle.prompt.specs.declared.quantities.Quantity.TheVariants.{Steps, Value, Address, First, Count}
use Rattle.prompt.specs.declared.mistakes.Expected.TheVariants.{Number, End}

pub spelled_out : SpelledOut
unfolding SpelledOut choice
spelled_out Load = refl
spelled_out Give = refl
spelled_out Forward = refl
spelled_out Where = refl
spelled_out Registers = refl
spelled_out Words = refl
spelled_out Outs = refl
spelled_out Help = refl
spelled_out Quit = refl

last_on : (o : Option ℕ) → onward o (λ x. Some x) ≡ o
last_on None = refl
last_on (Some x) = refl

module _ (base most m d : ℕ) where
  push_on : (bs : List ℕ) (o : Option ℕ) → ((x : ℕ) → digits base most x bs ≡ Some m → digits base most x (bs ++ d ∷ []) ≡ longer base most m d)
      → onward o (λ x. digits base most x bs) ≡ Some m → onward o (λ x. digits base most x (bs ++ d ∷ [])) ≡ longer base most m d
  push_on bs None f e = absurd (let z : ◌≡◌ {A = ℕ} 0 1 = cc in omega arith)
  push_on bs (Some x) f e = f x e

  -- one digit more behind digits that were read
  push : (bs : List ℕ) (k : ℕ) → digits base most k bs ≡ Some m → digits base most k (bs ++ d ∷ []) ≡ longer base most m d
  push [] k e = let h : k ≡ m = cc in last_on (longer base most k d) ∙ ap (λ x. longer base most x d) h
  push (b ∷ bs) k e = push_on bs (longer base most k b) (push bs) e

digit_of : (d : ℕ) → d < 10 → digit 10 (48 + d) ≡ Some d
digit_of d l = grind (arith, nat_tests)

-- a digit behind a number
one_longer : (most m d : ℕ) → d < 10 → m * 10 + d ≤ most → longer 10 most m (48 + d) ≡ Some (m * 10 + d)
one_longer most m d l h = ap (λ o. onward o (λ e. put_behind m e 10 most)) (digit_of d l) ∙ ap (λ b. cond b (Some (m * 10 + d)) None) (le-leb (m * 10 + d) most h)

-- of digits alone
abbrev Decimals : List ℕ → Type 0
Decimals [] = Unit {0}
Decimals (b ∷ bs) = (48 ≤ b) × (b ≤ 57) × Decimals bs

decimals_push : (bs : List ℕ) (d : ℕ) → Decimals bs → d < 10 → Decimals (bs ++ (48 + d) ∷ [])
decimals_push [] d h l = (omega arith, omega arith, tt)
decimals_push (b ∷ bs) d h l = (h.0, h.1, decimals_push bs d h.2 l)

-- digits that spell a number
abbrev Spells : ℕ → List ℕ → Type 0
Spells n ds = Decimals ds × (0 < length ds) × ((most : ℕ) → n ≤ most → digits 10 most 0 ds ≡ Some n)

spells : (n : ℕ) → n < 2 ^ 64 → Spells n (decimal n)
spells =
    decimal_by_steps Spells
    (λ n l. ((omega arith, omega arith, tt), omega arith, λ most h. last_on (longer 10 most 0 (48 + n)) ∙ (one_longer most 0 n l (omega arith) ∙ ap (λ x. Some x) (omega arith))))
    (λ n ds l s. (
      decimals_push ds (n % 10) s.0 (omega arith),
      rw length-append (omega arith),
      λ most h.
          push 10 most (n / 10) (48 + n % 10) ds 0 (s.2 most (omega arith))
          ∙ (one_longer most (n / 10) (n % 10) (omega arith) (omega arith) ∙ ap (λ x. Some x) (omega arith)),
    ))

-- digits are no blanks, and go on to the end of the word
digit_blank : (b : ℕ) → 48 ≤ b → b ≤ 57 → is_blank b ≡ false
digit_blank b l h = grind (arith, nat_tests)

digit_word : (b : ℕ) → 48 ≤ b → b ≤ 57 → in_word b ≡ true
digit_word b l h = grind (arith, nat_tests)

-- where a word ends: at the end of the line, or at a blank
abbrev Ends : List ℕ → Type 0
Ends [] = Unit {0}
Ends (b ∷ bs) = b ≡ 32

word_all : (ds u : List ℕ) → Decimals ds → Ends u → prefix_len in_word (ds ++ u) ≡ length ds
word_all [] [] h e = refl
word_all [] (b ∷ bs) h e = ap (λ x. cond (in_word x) (1 + prefix_len in_word bs) 0) e
word_all (b ∷ ds) u h e =
    let r = word_all ds u h.2 e in
    ap (λ t. cond t (1 + prefix_len in_word (ds ++ u)) 0) (digit_word b h.0 h.1) ∙ omega (arith, r)

trim_all : (ds u : List ℕ) → Decimals ds → 0 < length ds → prefix_len is_blank (32 ∷ (ds ++ u)) ≡ 1
trim_all [] u h l = absurd (omega arith)
trim_all (b ∷ ds) u h l = ap (λ t. 1 + cond t (1 + prefix_len is_blank (ds ++ u)) 0) (digit_blank b h.0 h.1)

no_hexadecimal : (ds : List ℕ) → Decimals ds → is_hexadecimal ds ≡ false
no_hexadecimal [] h = refl
no_hexadecimal (a ∷ []) h = refl
no_hexadecimal (a ∷ b ∷ ds) h = grind (arith, nat_tests)

most_fits : (q : Quantity) → most_of q < 2 ^ 64
most_fits Steps = omega arith
most_fits Value = omega arith
most_fits Address = omega arith
most_fits First = omega arith
most_fits Count = omega arith

number_back : (q : Quantity) (n : ℕ) → n ≤ most_of q → number (most_of q) (decimal n) ≡ Some n
number_back q n h =
    let m = most_of q in
    let ds = decimal n in
    let f = most_fits q in
    let s = spells n (omega arith) in
    let e : eqb (length ds) 0 ≡ false = grind (arith, nat_tests, s.1) in
    ap (λ b. cond b (digits 16 m 0 (drop 2 ds)) (cond (eqb (length ds) 0) None (digits 10 m 0 ds))) (no_hexadecimal ds s.0)
    ∙ (ap (λ b. cond b None (digits 10 m 0 ds)) e ∙ s.2 m h)

a_number_back : (q : Quantity) (n : ℕ) (u : List ℕ) → n ≤ most_of q → Ends u → a_number q (spaced n ++ u) ≡ got n u
a_number_back q n u h e =
    let m = most_of q in
    let ds = decimal n in
    let f = most_fits q in
    let s = spells n (omega arith) in
    let t : trimmed (spaced n ++ u) ≡ ds ++ u = ap (λ k. drop k (32 ∷ (ds ++ u))) (trim_all ds u s.0 s.1) in
    let w : word (ds ++ u) ≡ ds = ap (λ k. take k (ds ++ u)) (word_all ds u s.0 e) ∙ take_at ds u (length ds) refl in
    let b : behind (ds ++ u) ≡ u = ap (λ k. drop k (ds ++ u)) (word_all ds u s.0 e) ∙ drop_at ds u (length ds) refl in
    ap (λ x. or_slip (number m (word x)) x (behind x) (Number q)) t
    ∙ (ap (λ x. or_slip (number m x) (ds ++ u) (behind (ds ++ u)) (Number q)) w
    ∙ (ap (λ o. or_slip o (ds ++ u) (behind (ds ++ u)) (Number q)) (number_back q n h) ∙ ap (λ x. got n x) b))

-- the last number of a line
last_back : (q : Quantity) (n : ℕ) → n ≤ most_of q → a_number q (spaced n) ≡ got n []
last_back q n h = ap (a_number q) (sym (append-nil (spaced n))) ∙ a_number_back q n [] h tt

-- a line that has come so far, and its end
abbrev ended : List ℕ → Got Asked → Answer
ended line g = answer (length line) (bind g (λ q w. unless_over (slip (trimmed w) End) (trimmed w) (got q (trimmed w))))

-- two numbers to the end of a line
two_back : (line : List ℕ) (k : ℕ → ℕ → Asked) (q r : Quantity) (a n : ℕ) → a ≤ most_of q → n ≤ most_of r →
    ended line (as_two k (a_number q) (a_number r) (spaced a ++ spaced n)) ≡ right (k a n)
two_back line k q r a n h l =
    ap (λ (g : Got ℕ). ended line (bind g (λ b u. bind (a_number r u) (λ c v. got (k b c) v)))) (a_number_back q a (spaced n) h refl)
    ∙ ap (λ (g : Got ℕ). ended line (bind g (λ c v. got (k a c) v))) (last_back r n l)

pub typed_back : TypedBack
unfolding TypedBack choice
typed_back = (
  λ n h. ap (λ (g : Got ℕ). ended (codes "forward" ++ spaced n) (bind g (λ k u. got (forward k) u))) (last_back Steps n h),
  λ a n h l. two_back (codes "words" ++ (spaced a ++ spaced n)) words Address Count a n h l,
  λ a n h l. two_back (codes "outs" ++ (spaced a ++ spaced n)) outs First Count a n h l,
)
