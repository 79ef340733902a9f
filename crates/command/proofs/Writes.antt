-- What is written behind what was written.
use Rattle.std.proofs.Common.{◌≡◌, ℕ, suc, ◌+◌, ◌/◌, ◌%◌, ◌<◌, List, [], ◌∷◌, ◌++◌, length, get_or, take, Ok, Err, Result, sym, refl, ap, ◌∙◌, append_assoc, append-nil}
use native.Mathlib.Nat.{div-div-eq-div-mul}
use Rattle.std.proofs.lemmas.List.{take_more}
use Rattle.std.proofs.lemmas.List.FromFn.{fill_by_all}
use Rattle.command.specs.Machine.{each, flat, in_bytes, eight}
use Rattle.command.specs.Taken.{itself}
use Rattle.command.specs.Written.{Puts}

-- one thing and then another
pub wrote_then : (old a b mid new : List ℕ) → mid ≡ old ++ a → new ≡ mid ++ b → new ≡ old ++ (a ++ b)
wrote_then old a b mid new e h = h ∙ (ap (λ l. l ++ b) e ∙ append_assoc old a b)

pub puts_then : {X E : Type 0} (r : Result X E) (old a b mid new : List ℕ) → mid ≡ old ++ a → Puts mid b r new → Puts old (a ++ b) r new
puts_then (Ok x) old a b mid new e h = wrote_then old a b mid new e h
puts_then (Err y) old a b mid new e h = tt

-- two things, on nothing
pub written_two : (a b : List ℕ) {old mid new : List ℕ} → new ≡ mid ++ b → mid ≡ old ++ a → old ≡ [] → new ≡ a ++ b
written_two a b n m o = n ∙ ap (λ l. l ++ b) (m ∙ ap (λ l. l ++ a) o)

-- the same, spelled otherwise
pub puts_as : {X E : Type 0} (r : Result X E) (old a b new : List ℕ) → a ≡ b → Puts old a r new → Puts old b r new
puts_as (Ok x) old a b new e h = h ∙ ap (λ l. old ++ l) e
puts_as (Err y) old a b new e h = tt

flat_append : {A B : Type 0} (w : A → List B) (xs ys : List A) → flat w (xs ++ ys) ≡ flat w xs ++ flat w ys
flat_append w [] ys = refl
flat_append w (x ∷ xs) ys = ap (λ l. w x ++ l) (flat_append w xs ys) ∙ sym (append_assoc (w x) (flat w xs) (flat w ys))

pub each_length : {A B : Type 0} (f : A → B) (xs : List A) → length (each f xs) ≡ length xs
each_length f [] = refl
each_length f (x ∷ xs) = ap suc (each_length f xs)

pub flat_each : {A B : Type 0} (w : B → List ℕ) (f : A → B) (xs : List A) → flat (λ x. w (f x)) xs ≡ flat w (each f xs)
flat_each w f [] = refl
flat_each w f (x ∷ xs) = ap (λ l. w (f x) ++ l) (flat_each w f xs)

-- one byte more, however bytes are held
pub pushed : {B : Type 0} (text : List B → List ℕ) → ((s t : List B) → text (s ++ t) ≡ text s ++ text t) → (old : List B) {new : List B} {x : B} {b : ℕ}
    → new ≡ old ++ x ∷ [] → text (x ∷ []) ≡ b ∷ [] → text new ≡ text old ++ b ∷ []
pushed text joined old {new} {x} e h = ap text e ∙ (joined old (x ∷ []) ∙ ap (λ l. text old ++ l) h)

-- one more of a list
module _ (old : List ℕ) {mid : List ℕ} where
  pub byte_more : (bs : List ℕ) (i d : ℕ) {b : ℕ} (new : List ℕ) → mid ≡ old ++ take i bs → i < length bs → b ≡ get_or bs i d → new ≡ mid ++ b ∷ [] → new ≡ old ++ take (i + 1) bs
  byte_more bs i d {b} new e h is n =
      n ∙ (ap (λ l. l ++ b ∷ []) e ∙ (append_assoc old (take i bs) (b ∷ []) ∙ sym (ap (λ l. old ++ l) (take_more bs i d h ∙ ap (λ y. take i bs ++ y ∷ []) (sym is)))))

  pub list_more : {A : Type 0} (w : A → List ℕ) (xs : List A) (i : ℕ) (x d : A) (new : List ℕ) → mid ≡ old ++ flat w (take i xs) → i < length xs → x ≡ get_or xs i d → new ≡ mid ++ w x
      → new ≡ old ++ flat w (take (i + 1) xs)
  list_more w xs i x d new e h x-is n =
      let m : flat w (take (i + 1) xs) ≡ flat w (take i xs) ++ w x = ap (flat w) (take_more xs i d h ∙ ap (λ y. take i xs ++ y ∷ []) (sym x-is)) ∙ (flat_append w (take i xs) (x ∷ []) ∙ ap (λ l. flat w (take i xs) ++ l) (append-nil (w x))) in
      n ∙ (ap (λ l. l ++ w x) e ∙ (append_assoc old (flat w (take i xs)) (w x) ∙ sym (ap (λ l. old ++ l) m)))

-- numbers in eight bytes as the library writes them
pub eight_is : (n : ℕ)
    → (n / 72057594037927936 % 256) ∷ (n / 281474976710656 % 256) ∷ (n / 1099511627776 % 256) ∷ (n / 4294967296 % 256) ∷ (n / 16777216 % 256) ∷ (n / 65536 % 256) ∷ (n / 256 % 256) ∷ (n % 256) ∷ [] ≡ eight n
unfolding in_bytes
eight_is n = simp div-div-eq-div-mul

-- as long, and alike at each place
pub alike : (xs ys : List ℕ) (n : ℕ) → length xs ≡ n → length ys ≡ n → ((i : ℕ) → i < n → get_or ys i 0 ≡ get_or xs i 0) → ys ≡ xs
alike xs ys n h k e = fill_by_all (λ i. get_or xs i 0) ys n 0 k e ∙ sym (fill_by_all (λ i. get_or xs i 0) xs n 0 h (λ i l. refl))

pub each_itself : {A : Type 0} (xs : List A) → each itself xs ≡ xs
each_itself [] = refl
each_itself (x ∷ xs) = ap (λ l. x ∷ l) (each_itself xs)
