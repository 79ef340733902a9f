-- The other way round: a time with the properties of the one where going on, or back, or looking for a change stops, is that time. This is what a
-- debugger that finds it in its own way is shown right by. Assumes nothing.
use Rattle.std.proofs.Common.{◌≡◌, ℕ, zero, suc, ◌+◌, ◌<◌, ◌≤◌, Bool, true, false, eqb, ◌⊎◌, List, [], ◌∷◌, refl, inl, inr, ⊎_elim, arith}
use Rattle.std.proofs.lemmas.Bool.{eqb-true, both_ways, cases_lt}
use Rattle.command.specs.Machine.{goes_on}
use Rattle.command.specs.Plain.{Plain, Break, holds_at, on_till, back_till, changes_at, last_change}
use Rattle.command.specs.Exact.{OnEnd, BackEnd}
use Rattle.command.proofs.Picks.{by_test, pick_both}
use Rattle.command.proofs.Stops.{on_stop, back_stop}

-- of two times where a test comes out differently, the one that is not after is before
apart_by : (p : ℕ → Bool) (t u : ℕ) → t ≤ u → p t ≡ false → p u ≡ true → t < u
apart_by p t u h e f = ⊎_elim (λ (lt : t < u). lt) (λ (le : u ≤ t). let s : t ≡ u = omega arith in absurd (both_ways (p u) (rw s at e) f)) (cases_lt t u)

pub on_till_is : (w : Plain) (bs : List Break) (t n u : ℕ) → t ≤ u → u ≤ t + n →
    ((v : ℕ) → t ≤ v → v < u → goes_on w.program w.ins v ≡ true) → ((v : ℕ) → t < v → v < u → holds_at w bs v ≡ false) → OnEnd w bs t n u →
    on_till w bs t n ≡ u
unfolding on_till
on_till_is w bs t zero u lo hi go no_hit end = omega arith
on_till_is w bs t (suc n) u lo hi go no_hit end =
    ⊎_elim
    (λ (lt : t < u).
    rw (go t (omega arith) lt)
    (by_test (holds_at w bs (suc t))
    (λ e. rw e (⊎_elim
    (λ (l : suc t < u). absurd (both_ways _ (no_hit (suc t) (omega arith) l) e))
    (λ (l : u ≤ suc t). omega arith)
    (cases_lt (suc t) u)))
    (λ e. rw e (on_till_is w bs (suc t) n u lt (omega arith) (λ v p q. go v (omega arith) q) (λ v p q. no_hit v (omega arith) q)
    (⊎_elim
    (λ (x : (t < u) × (holds_at w bs u ≡ true)). inl (apart_by (holds_at w bs) (suc t) u lt e x.1, x.1))
    (λ (x : (u ≡ t + suc n) ⊎ (goes_on w.program w.ins u ≡ false)). inr (⊎_elim (λ (y : u ≡ t + suc n). inl (omega arith)) inr x))
    end)))))
    (λ (ge : u ≤ t).
    let s : t ≡ u = omega arith in
    let stuck : goes_on w.program w.ins u ≡ false =
    ⊎_elim (λ (x : (t < u) × (holds_at w bs u ≡ true)). absurd (omega arith))
    (λ (x : (u ≡ t + suc n) ⊎ (goes_on w.program w.ins u ≡ false)). ⊎_elim (λ (y : u ≡ t + suc n). absurd (omega arith)) (λ y. y) x) end in
    rw (s, stuck))
    (cases_lt t u)

pub back_till_is : (w : Plain) (bs : List Break) (t n u : ℕ) → u ≤ t → t ≤ u + n →
    ((v : ℕ) → u < v → v < t → holds_at w bs v ≡ false) → BackEnd w bs t n u → back_till w bs t n ≡ u
unfolding back_till
back_till_is w bs zero n u hi lo no_hit end = omega arith
back_till_is w bs (suc t) zero u hi lo no_hit end = omega arith
back_till_is w bs (suc t) (suc n) u hi lo no_hit end =
    let le : u ≤ t =
    ⊎_elim (λ (x : u ≡ 0). omega arith)
    (λ (x : ((u < suc t) × (holds_at w bs u ≡ true)) ⊎ (suc t ≡ u + suc n)). ⊎_elim (λ (y : (u < suc t) × (holds_at w bs u ≡ true)). omega arith) (λ (y : suc t ≡ u + suc n). omega arith) x) end in
    by_test (eqb t 0)
    (λ z. let e : t ≡ 0 = eqb-true t 0 z in rw z (omega arith))
    (λ z. rw z
    (by_test (holds_at w bs t)
    (λ e. rw e (⊎_elim
    (λ (l : u < t). absurd (both_ways _ (no_hit t l (omega arith)) e))
    (λ (l : t ≤ u). omega arith)
    (cases_lt u t)))
    (λ e. rw e (back_till_is w bs t n u le (omega arith) (λ v p q. no_hit v p (omega arith))
    (⊎_elim inl
    (λ (x : ((u < suc t) × (holds_at w bs u ≡ true)) ⊎ (suc t ≡ u + suc n)).
    inr (⊎_elim
    (λ (y : (u < suc t) × (holds_at w bs u ≡ true)). inl (
      ⊎_elim
          (λ (l : u < t). l)
          (λ (l : t ≤ u). let s : t ≡ u = omega arith in absurd (both_ways (holds_at w bs u) (rw s at e) y.1))
          (cases_lt u t),
      y.1,
    ))
    (λ (y : suc t ≡ u + suc n). inr (omega arith)) x))
    end)))))

-- going back it does move, if it may; LastStop alone would allow it to stay where a break holds
pub back_moves : (w : Plain) (bs : List Break) (t n : ℕ) → back_till w bs (suc t) (suc n) ≤ t
unfolding back_till
back_moves w bs t n =
    pick_both (λ (u : ℕ). u ≤ t) (eqb t 0) _ _ (λ _. omega arith)
    (λ _. pick_both (λ (u : ℕ). u ≤ t) (holds_at w bs t) _ _ (λ _. omega arith) (λ _. (back_stop w bs t n).0))

pub on_moves : (w : Plain) (bs : List Break) (t n : ℕ) → goes_on w.program w.ins t ≡ true → t < on_till w bs t (suc n)
unfolding on_till
on_moves w bs t n g =
    rw g (pick_both (λ (u : ℕ). t < u) (holds_at w bs (suc t)) _ _ (λ _. omega arith) (λ _. (on_stop w bs (suc t) n).0))

pub last_change_is : (w : Plain) (a t u : ℕ) → changes_at w a u ≡ true → 1 ≤ u → u ≤ t → ((v : ℕ) → u < v → v ≤ t → changes_at w a v ≡ false) →
    last_change w a t ≡ u ∷ []
unfolding last_change
last_change_is w a zero u is lo hi none = absurd (omega arith)
last_change_is w a (suc t) u is lo hi none =
    by_test (changes_at w a (suc t))
    (λ e. rw e (⊎_elim
    (λ (l : u < suc t). absurd (both_ways _ (none (suc t) l (omega arith)) e))
    (λ (l : suc t ≤ u). let s : suc t ≡ u = omega arith in rw s)
    (cases_lt u (suc t))))
    (λ e. rw e
    (let l : u < suc t = ⊎_elim (λ (l : u < suc t). l) (λ (l : suc t ≤ u). let s : suc t ≡ u = omega arith in absurd (both_ways (changes_at w a u) (rw s at e) is)) (cases_lt u (suc t)) in
    last_change_is w a t u is lo (omega arith) (λ v p q. none v p (omega arith))))

pub last_change_none : (w : Plain) (a t : ℕ) → ((v : ℕ) → 1 ≤ v → v ≤ t → changes_at w a v ≡ false) → last_change w a t ≡ []
unfolding last_change
last_change_none w a zero none = refl
last_change_none w a (suc t) none = rw (none (suc t) (omega arith) (omega arith)) (last_change_none w a t (λ v p q. none v p (omega arith)))
