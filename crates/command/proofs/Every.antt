-- What a test says of every element of a list, it says of parts of it, of each element, and of two lists put together. Assumes nothing.
use Rattle.std.proofs.Common.{◌≡◌, ℕ, zero, suc, Bool, true, List, [], ◌∷◌, ◌++◌, get_or, take, drop, set, refl}
use Rattle.std.proofs.lemmas.Bool.{and_parts, and_from}
use Rattle.command.specs.Machine.{every}

module _ {A : Type 0} (p : A → Bool) where
  -- of each element, and of what stands past the end, if it holds of that
  pub every_at : (xs : List A) (k : ℕ) (d : A) → every p xs ≡ true → p d ≡ true → p (get_or xs k d) ≡ true
  every_at [] k d h e = e
  every_at (x ∷ xs) zero d h e = (and_parts (p x) (every p xs) h).0
  every_at (x ∷ xs) (suc k) d h e = every_at xs k d (and_parts (p x) (every p xs) h).1 e

  pub every_append : (xs ys : List A) → every p xs ≡ true → every p ys ≡ true → every p (xs ++ ys) ≡ true
  every_append [] ys h k = k
  every_append (x ∷ xs) ys h k =
      and_from (p x) (every p (xs ++ ys)) (and_parts (p x) (every p xs) h).0 (every_append xs ys (and_parts (p x) (every p xs) h).1 k)

  pub every_take : (n : ℕ) (xs : List A) → every p xs ≡ true → every p (take n xs) ≡ true
  every_take zero xs h = refl
  every_take (suc n) [] h = refl
  every_take (suc n) (x ∷ xs) h =
      and_from (p x) (every p (take n xs)) (and_parts (p x) (every p xs) h).0 (every_take n xs (and_parts (p x) (every p xs) h).1)

  pub every_drop : (n : ℕ) (xs : List A) → every p xs ≡ true → every p (drop n xs) ≡ true
  every_drop zero xs h = h
  every_drop (suc n) [] h = refl
  every_drop (suc n) (x ∷ xs) h = every_drop n xs (and_parts (p x) (every p xs) h).1

  pub every_set : (xs : List A) (k : ℕ) (v : A) → every p xs ≡ true → p v ≡ true → every p (set xs k v) ≡ true
  every_set [] k v h e = refl
  every_set (x ∷ xs) zero v h e = and_from (p v) (every p xs) e (and_parts (p x) (every p xs) h).1
  every_set (x ∷ xs) (suc k) v h e =
      and_from (p x) (every p (set xs k v)) (and_parts (p x) (every p xs) h).0 (every_set xs k v (and_parts (p x) (every p xs) h).1 e)
