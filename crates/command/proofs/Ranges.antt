-- What holds at an end of a range of numbers and at the rest holds in all of it. Assumes nothing.
use Rattle.std.proofs.Common.{ℕ, ◌<◌, ◌≤◌, subst, ⊎_elim, arith}
use Rattle.std.proofs.lemmas.Bool.{cases_order}

-- what holds at t and at all after it holds at each v from t on
pub at_or_after : (P : ℕ → Type 0) (t v : ℕ) → t ≤ v → P t → (t < v → P v) → P v
at_or_after P t v h here after = ⊎_elim (λ e. subst P e here) (λ r. after (⊎_elim (λ x. x) (λ x. absurd (omega arith)) r)) (cases_order t v)

-- what holds at t and at all before it holds at each v up to t
pub at_or_before : (P : ℕ → Type 0) (t v : ℕ) → v ≤ t → P t → (v < t → P v) → P v
at_or_before P t v h here before = ⊎_elim (λ e. subst P e here) (λ r. before (⊎_elim (λ x. absurd (omega arith)) (λ x. x) r)) (cases_order t v)
