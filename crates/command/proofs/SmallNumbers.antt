-- What is reckoned stays below 2^32. Assumes nothing.
use Rattle.std.proofs.Common.{◌≡◌, ℕ, zero, suc, ◌*◌, ◌/◌, ◌%◌, ◌^◌, ◌<◌, ◌≤◌, Bool, true, eqb, ltb, List, [], ◌∷◌, refl, arith}
use Rattle.std.proofs.lemmas.Bool.{lt-ltb, eqb-false}
use Rattle.command.specs.Machine.{pick, every, or, both, differ, whole, bits, twice, halved, reckoned}
use Rattle.command.specs.Statements.{SmallNumbers}
use Rattle.command.proofs.Picks.{pick_both}

pub pick_bit : (b : Bool) → pick b 1 0 ≤ 1
pick_bit b = pick_both (λ n. n ≤ 1) b 1 0 (λ _. omega arith) (λ _. omega arith)

pub bits_below : (f : Bool → Bool → Bool) (a b n : ℕ) → bits f a b n < 2 ^ n
unfolding bits
bits_below f a b zero = omega arith
bits_below f a b (suc n) =
    omega (arith, bits_below f (a / 2) (b / 2) n, pick_bit (f (eqb (a % 2) 1) (eqb (b % 2) 1)))

pub twice_below : (n a : ℕ) → a < whole → twice n a < whole
unfolding twice
twice_below zero a h = h
twice_below (suc n) a h = twice_below n (2 * a % whole) (omega arith)

pub halved_below : (n a k : ℕ) → a < k → halved n a < k
unfolding halved
halved_below zero a k h = h
halved_below (suc n) a k h = halved_below n (a / 2) k (omega arith)

abbrev Small : List ℕ → Type 0
Small vs = every (λ v. ltb v 4294967296) vs ≡ true

small : (v : ℕ) → v < whole → Small (v ∷ [])
small v h = simp (lt-ltb v 4294967296 h)

or_else : (b : Bool) (x y : List ℕ) → (b ≡ true → Small x) → Small y → Small (pick b x y)
or_else b x y f g = pick_both Small b x y f (λ _. g)

pub small_numbers : SmallNumbers
unfolding SmallNumbers reckoned
small_numbers k a b ha hb =
    or_else (eqb k 0) _ _ (λ _. small _ (omega arith))
    (or_else (eqb k 1) _ _ (λ _. small _ (omega arith))
    (or_else (eqb k 2) _ _ (λ _. small _ (omega arith))
    (or_else (eqb k 3) _ _ (λ _. or_else (eqb b 0) _ _ (λ _. refl) (small _ (omega arith)))
    (or_else (eqb k 4) _ _ (λ _. pick_both Small (eqb b 0) _ _ (λ _. refl) (λ e. let ne : b ≡ 0 → ⊥ = eqb-false b 0 e in small _ (omega arith)))
    (or_else (eqb k 5) _ _ (λ _. small _ (bits_below both a b 32))
    (or_else (eqb k 6) _ _ (λ _. small _ (bits_below or a b 32))
    (or_else (eqb k 7) _ _ (λ _. small _ (bits_below differ a b 32))
    (or_else (eqb k 8) _ _ (λ _. small _ (twice_below (b % 32) a ha))
    (small _ (halved_below (b % 32) a whole ha))))))))))
