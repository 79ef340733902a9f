-- What stands at each place of a list, and past its end the default. Assumes nothing.
use Rattle.std.proofs.Common.{◌≡◌, ℕ, zero, suc, ◌<◌, ◌≤◌, List, [], ◌∷◌, length, get_or, replicate, refl, ap, ◌∙◌, arith}

module _ {A : Type 0} where
  -- what is there is read the same whatever the default
  pub other_default : (xs : List A) (p : ℕ) (x y : A) → p < length xs → get_or xs p x ≡ get_or xs p y
  other_default [] p x y h = absurd (omega arith)
  other_default (z ∷ xs) zero x y h = refl
  other_default (z ∷ xs) (suc p) x y h = other_default xs p x y (omega arith)

  pub default_past : (xs : List A) (d : A) (i : ℕ) → length xs ≤ i → get_or xs i d ≡ d
  default_past [] d i h = refl
  default_past (x ∷ xs) d zero h = absurd (omega arith)
  default_past (x ∷ xs) d (suc i) h = default_past xs d i (omega arith)

  -- nothing but defaults
  pub defaults_copies : (n : ℕ) (d : A) (i : ℕ) → get_or (replicate n d) i d ≡ d
  defaults_copies zero d i = refl
  defaults_copies (suc n) d zero = refl
  defaults_copies (suc n) d (suc i) = defaults_copies n d i

  pub defaults : (n : ℕ) (xs : List A) (d : A) → xs ≡ replicate n d → (i : ℕ) → get_or xs i d ≡ d
  defaults n xs d e i = ap (λ z. get_or z i d) e ∙ defaults_copies n d i
