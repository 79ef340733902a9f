-- States that are kept: the one kept last by a number is found under it, and the others stay. Assumes nothing.
use Rattle.std.proofs.Common.{◌≡◌, ℕ, false, not, eqb, List, [], ◌∷◌, refl, ap, ◌∙◌}
use Rattle.std.proofs.lemmas.Bool.{eqb-true, eq-eqb}
use Rattle.command.specs.Machine.{pick, those, State}
use Rattle.target.specs.Run.{Slot, Target, slot_of, keep_in}
use Rattle.command.proofs.Picks.{by_test}

pub kept_found : (t : Target) (k : ℕ) → slot_of (keep_in t k).slots k ≡ t.state ∷ []
unfolding slot_of
kept_found t k = rw (eq-eqb k k refl)

others : (ss : List Slot) (k j : ℕ) → eqb k j ≡ false → slot_of (those (λ s. not (eqb s.number k)) ss) j ≡ slot_of ss j
unfolding slot_of
others [] k j e = refl
others (s ∷ ss) k j e =
    by_test (eqb s.number k)
    (λ f.
    let is : s.number ≡ k = eqb-true s.number k f in
    let g : eqb s.number j ≡ false = ap (λ (x : ℕ). eqb x j) is ∙ e in
    rw (f, g) (others ss k j e))
    (λ f. rw f (ap (λ (r : List State). pick (eqb s.number j) (s.state ∷ []) r) (others ss k j e)))

pub kept_others : (t : Target) (k j : ℕ) → eqb k j ≡ false → slot_of (keep_in t k).slots j ≡ slot_of t.slots j
unfolding slot_of
kept_others t k j e = rw e (others t.slots k j e)
