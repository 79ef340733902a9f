-- Fronts by the length of the run of bytes that pass a test. Assumes nothing.
use Rattle.std.proofs.Common.{◌≡◌, ℕ, suc, ◌+◌, Bool, true, false, List, [], ◌∷◌, take, drop, refl, ap, ⊎_elim, arith}
use Rattle.std.specs.List.{prefix_len}
use Rattle.std.proofs.lemmas.Bool.{cases_Bool}
use Rattle.assembler.specs.Words.{front, past}

one_more : (k : ℕ) → 1 + k ≡ suc k
one_more k = omega arith

pub front_taken : (p : ℕ → Bool) (t : List ℕ) → take (prefix_len p t) t ≡ front p t
unfolding front
front_taken p [] = refl
front_taken p (b ∷ bs) =
    ⊎_elim (λ (e : p b ≡ true). rw (e, one_more (prefix_len p bs)) (ap (λ u. b ∷ u) (front_taken p bs))) (λ (e : p b ≡ false). rw e refl) (cases_Bool (p b))

pub past_dropped : (p : ℕ → Bool) (t : List ℕ) → drop (prefix_len p t) t ≡ past p t
unfolding past
past_dropped p [] = refl
past_dropped p (b ∷ bs) = ⊎_elim (λ (e : p b ≡ true). rw (e, one_more (prefix_len p bs)) (past_dropped p bs)) (λ (e : p b ≡ false). rw e refl) (cases_Bool (p b))
