-- A test of each element, one after the other. Assumes nothing.
use Rattle.std.proofs.Common.{◌≡◌, ℕ, zero, suc, ◌+◌, ◌<◌, Bool, true, false, ◌&&◌, List, [], ◌∷◌, length, get_or, take, refl, add-one, arith}
use Rattle.command.specs.Machine.{each, every, any, or}

module _ {A B : Type 0} (p : B → Bool) (f : A → B) where
  more : (xs : List A) (i : ℕ) (d : A) → i < length xs → every p (each f (take i xs)) ≡ true → p (f (get_or xs i d)) ≡ true
      → every p (each f (take (suc i) xs)) ≡ true
  more [] i d h e g = absurd (omega arith)
  more (x ∷ xs) zero d h e g = simp g
  more (x ∷ xs) (suc i) d h e g = both (p (f x)) _ e (λ k. more xs i d (omega arith) k g)
    where
      both : (a : Bool) (b : Bool) {c : Bool} → (a && b) ≡ true → (b ≡ true → c ≡ true) → (a && c) ≡ true
      both true b e k = k e
      both false b e k = e

  pub every_more : (xs : List A) (i : ℕ) (d : A) → i < length xs → every p (each f (take i xs)) ≡ true → p (f (get_or xs i d)) ≡ true
      → every p (each f (take (i + 1) xs)) ≡ true
  every_more xs i d h e g = rw add-one (more xs i d h e g)

  pub every_fails : (xs : List A) (i n : ℕ) (d : A) → i < n → i < length xs → p (f (get_or xs i d)) ≡ false → every p (each f (take n xs)) ≡ false
  every_fails [] i n d h k g = absurd (omega arith)
  every_fails (x ∷ xs) i zero d h k g = absurd (omega arith)
  every_fails (x ∷ xs) zero (suc n) d h k g = simp g
  every_fails (x ∷ xs) (suc i) (suc n) d h k g = simp (every_fails xs i n d (omega arith) (omega arith) g) (no_other (p (f x)))
    where
      no_other : (a : Bool) → (a && false) ≡ false
      no_other true = refl
      no_other false = refl

  one_more : (xs : List A) (i : ℕ) (d : A) → i < length xs → any p (each f (take i xs)) ≡ false → p (f (get_or xs i d)) ≡ false
      → any p (each f (take (suc i) xs)) ≡ false
  one_more [] i d h e g = absurd (omega arith)
  one_more (x ∷ xs) zero d h e g = simp g
  one_more (x ∷ xs) (suc i) d h e g = neither (p (f x)) _ e (λ k. one_more xs i d (omega arith) k g)
    where
      neither : (a : Bool) (b : Bool) {c : Bool} → or a b ≡ false → (b ≡ false → c ≡ false) → or a c ≡ false
      neither true b e k = e
      neither false b e k = k e

  pub any_more : (xs : List A) (i : ℕ) (d : A) → i < length xs → any p (each f (take i xs)) ≡ false → p (f (get_or xs i d)) ≡ false
      → any p (each f (take (i + 1) xs)) ≡ false
  any_more xs i d h e g = rw add-one (one_more xs i d h e g)

  pub any_there : (xs : List A) (i : ℕ) (d : A) → i < length xs → p (f (get_or xs i d)) ≡ true → any p (each f xs) ≡ true
  any_there [] i d k g = absurd (omega arith)
  any_there (x ∷ xs) zero d k g = simp g
  any_there (x ∷ xs) (suc i) d k g = simp (any_there xs i d (omega arith) g) (or_true (p (f x)))
    where
      or_true : (a : Bool) → or a true ≡ true
      or_true true = refl
      or_true false = refl
