-- Numbers that words write. Assumes nothing: these are definitions.
use Rattle.std.specs.Prelude.{ℕ, ◌+◌, ◌-◌, ◌*◌, Bool, cond, ◌&&◌, List, [], ◌∷◌, length, drop, Some, None, Option, ◌==◌, nat_le, nat_lt, slice_index}

abbrev pub from_to : ℕ → ℕ → ℕ → Bool
from_to a z b = nat_le a b && nat_le b z

-- go on with what there is
abbrev pub onward : {A B : Type 0} → Option A → (A → Option B) → Option B
onward None k = None
onward (Some a) k = k a

abbrev pub only_below : ℕ → ℕ → Option ℕ
only_below base n = cond (nat_lt n base) (Some n) None

-- 0 to 9, a to f, A to F
abbrev pub digit : (base b : ℕ) → Option ℕ
digit base b =
    cond (from_to 48 57 b) (only_below base (b - 48))
    (cond (from_to 97 102 b) (only_below base (b - 97 + 10)) (cond (from_to 65 70 b) (only_below base (b - 65 + 10)) None))

-- one digit more behind a number, as long as it is not too large
abbrev pub put_behind : (n d base most : ℕ) → Option ℕ
put_behind n d base most = cond (nat_le (n * base + d) most) (Some (n * base + d)) None

abbrev pub longer : (base most n b : ℕ) → Option ℕ
longer base most n b = onward (digit base b) (λ d. put_behind n d base most)

abbrev pub digits : (base most n : ℕ) → List ℕ → Option ℕ
digits base most n [] = Some n
digits base most n (b ∷ bs) = onward (longer base most n b) (λ m. digits base most m bs)

abbrev pub is_hexadecimal : List ℕ → Bool
is_hexadecimal w = nat_lt 2 (length w) && (slice_index w 0 == 48 && slice_index w 1 == 120)

abbrev pub number : ℕ → List ℕ → Option ℕ
number most w = cond (is_hexadecimal w) (digits 16 most 0 (drop 2 w)) (cond (length w == 0) None (digits 10 most 0 w))
