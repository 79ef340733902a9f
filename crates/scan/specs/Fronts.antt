-- Fronts of a text, and what a closure tests. Assumes nothing: these are definitions.
use Rattle.std.specs.Prelude.{◌≡◌, ℕ, Bool, true, List, [], ◌∷◌, ◌==◌}

-- whatever a call may answer is what a test says of the byte
abbrev pub Tests : (ℕ → Bool) → (ℕ → Bool → Type 0) → Type 0
Tests p post = (b : ℕ) (r : Bool) → post b r → r ≡ p b

-- nothing but a comment is left of a line
abbrev pub over : List ℕ → Bool
over [] = true
over (b ∷ t) = b == 35
