-- Where going on, going back and looking for a change stop has the properties that specs/Exact gives it. Assumes nothing.
use Rattle.std.proofs.Common.{◌≡◌, ℕ, zero, suc, ◌≤◌, true, false, eqb, List, [], ◌∷◌, refl, inl, inr, ⊎_elim, arith}
use Rattle.std.proofs.lemmas.Bool.{eqb-true}
use Rattle.command.specs.Machine.{goes_on}
use Rattle.command.specs.Plain.{Plain, Break, holds_at, on_till, back_till, changes_at, last_change}
use Rattle.command.specs.Exact.{OnExact, BackExact, ChangedLast}
use Rattle.command.proofs.Picks.{pick_both}
use Rattle.command.proofs.Ranges.{at_or_after, at_or_before}

-- one step more in front, at which nothing stops it
on_more : (w : Plain) (bs : List Break) (t n u : ℕ) → goes_on w.program w.ins t ≡ true → holds_at w bs (suc t) ≡ false → OnExact w bs (suc t) n u →
    OnExact w bs t (suc n) u
on_more w bs t n u g e (lo, hi, go, no_hit, end) = (
  omega arith,
  omega arith,
  (λ v p q. at_or_after (λ k. goes_on w.program w.ins k ≡ true) t v p g (λ r. go v r q)),
  (λ v p q. at_or_after (λ k. holds_at w bs k ≡ false) (suc t) v p e (λ r. no_hit v r q)),
  ⊎_elim (λ x. inl (omega arith, x.1)) (λ x. inr (⊎_elim (λ y. inl (omega arith)) inr x)) end,
)

pub on_stop : (w : Plain) (bs : List Break) (t n : ℕ) → OnExact w bs t n (on_till w bs t n)
unfolding on_till
on_stop w bs t zero = (omega arith, omega arith, (λ v p q. absurd (omega arith)), (λ v p q. absurd (omega arith)), inr (inl (omega arith)))
on_stop w bs t (suc n) =
    pick_both (OnExact w bs t (suc n)) (goes_on w.program w.ins t) _ _
    (λ g. pick_both (OnExact w bs t (suc n)) (holds_at w bs (suc t)) _ _
    (λ e. (
      omega arith,
      omega arith,
      (λ v p q. at_or_after (λ k. goes_on w.program w.ins k ≡ true) t v p g (λ r. absurd (omega arith))),
      (λ v p q. absurd (omega arith)),
      inl (omega arith, e),
    ))
    (λ e. on_more w bs t n _ g e (on_stop w bs (suc t) n)))
    (λ g. (omega arith, omega arith, (λ v p q. absurd (omega arith)), (λ v p q. absurd (omega arith)), inr (inr g)))

back_more : (w : Plain) (bs : List Break) (t n u : ℕ) → holds_at w bs t ≡ false → BackExact w bs t n u → BackExact w bs (suc t) (suc n) u
back_more w bs t n u e (hi, lo, no_hit, end) = (
  omega arith,
  omega arith,
  (λ v p q. at_or_before (λ k. holds_at w bs k ≡ false) t v (omega arith) e (λ r. no_hit v p r)),
  ⊎_elim inl (λ x. inr (⊎_elim (λ y. inl (omega arith, y.1)) (λ y. inr (omega arith)) x)) end,
)

pub back_stop : (w : Plain) (bs : List Break) (t n : ℕ) → BackExact w bs t n (back_till w bs t n)
unfolding back_till
back_stop w bs zero n = (omega arith, omega arith, (λ v p q. absurd (omega arith)), inl refl)
back_stop w bs (suc t) zero = (omega arith, omega arith, (λ v p q. absurd (omega arith)), inr (inr (omega arith)))
back_stop w bs (suc t) (suc n) =
    pick_both (BackExact w bs (suc t) (suc n)) (eqb t 0) _ _
    (λ e. let z : t ≡ 0 = eqb-true t 0 e in (omega arith, omega arith, (λ v p q. absurd (omega arith)), inl refl))
    (λ _. pick_both (BackExact w bs (suc t) (suc n)) (holds_at w bs t) _ _
    (λ e. (omega arith, omega arith, (λ v p q. absurd (omega arith)), inr (inl (omega arith, e))))
    (λ e. back_more w bs t n _ e (back_stop w bs t n)))

-- what is said of the last change, if there is none; and if there is one
unfoldable pub LastAt : Plain → ℕ → ℕ → List ℕ → Type 0
LastAt w a t [] = (v : ℕ) → 1 ≤ v → v ≤ t → changes_at w a v ≡ false
LastAt w a t (u ∷ us) = (us ≡ []) × ChangedLast w a t u

no_later : (w : Plain) (a t : ℕ) (us : List ℕ) → changes_at w a (suc t) ≡ false → LastAt w a t us → LastAt w a (suc t) us
unfolding LastAt
no_later w a t [] e h = λ v p q. at_or_before (λ k. changes_at w a k ≡ false) (suc t) v q e (λ x. h v p (omega arith))
no_later w a t (u ∷ us) e (one, (is, lo, hi, none)) =
    (one, (is, lo, omega arith, λ v p q. at_or_before (λ k. changes_at w a k ≡ false) (suc t) v q e (λ x. none v p (omega arith))))

pub last_at : (w : Plain) (a t : ℕ) → LastAt w a t (last_change w a t)
unfolding LastAt last_change
last_at w a zero = λ v p q. absurd (omega arith)
last_at w a (suc t) =
    pick_both (LastAt w a (suc t)) (changes_at w a (suc t)) _ _
    (λ e. (refl, (e, omega arith, omega arith, λ v p q. absurd (omega arith))))
    (λ e. no_later w a t _ e (last_at w a t))
