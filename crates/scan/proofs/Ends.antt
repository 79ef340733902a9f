-- Where the front of bytes that pass a test ends. Assumes nothing.
use Rattle.std.proofs.Common.{◌≡◌, ℕ, ◌+◌, ◌≤◌, Bool, true, false, cond, not, List, [], ◌∷◌, length, Some, None, unwrap_or, Option, ltb, refl, ap, ◌∙◌, arith}
use Rattle.std.specs.List.{prefix_len, position_or_len}
use Rattle.std.proofs.lemmas.List.Sums.{prefix_len-le-length}
use Rattle.std.proofs.lemmas.Bool.Decides.{nat_tests}

not_not : (b : Bool) → not (not b) ≡ b
not_not true = refl
not_not false = refl

first_off : (p : ℕ → Bool) (xs : List ℕ) → position_or_len (λ b. not (p b)) xs ≡ prefix_len p xs
first_off p [] = refl
first_off p (x ∷ xs) = ap (λ b. cond b (1 + position_or_len (λ c. not (p c)) xs) 0) (not_not (p x)) ∙ ap (λ k. cond (p x) (1 + k) 0) (first_off p xs)

or_all : (k n : ℕ) → k ≤ n → unwrap_or (cond (ltb k n) (Some k) None) n ≡ k
or_all k n h = grind (arith, nat_tests)

-- the first byte that fails, or the end
pub ends : (p : ℕ → Bool) (xs : List ℕ) (r : Option ℕ)
    → r ≡ cond (ltb (position_or_len (λ b. not (p b)) xs) (length xs)) (Some (position_or_len (λ b. not (p b)) xs)) None
    → unwrap_or r (length xs) ≡ prefix_len p xs
ends p xs r e =
    let h = prefix_len-le-length (λ b. not (not (p b))) xs in
    ap (λ o. unwrap_or o (length xs)) e ∙ (or_all (position_or_len (λ b. not (p b)) xs) (length xs) h ∙ first_off p xs)
