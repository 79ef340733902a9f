-- Going on and back, a turn of a loop at a time. Assumes nothing.
use Rattle.std.proofs.Common.{◌≡◌, ℕ, zero, suc, ◌+◌, ◌-◌, ◌<◌, ◌≤◌, true, false, eqb, List, [], sym, refl, ap, ◌∙◌, subst, arith}
use Rattle.std.proofs.lemmas.Bool.{eqb-true, eqb-false}
use Rattle.command.specs.Machine.{goes_on}
use Rattle.command.specs.Plain.{Plain, Break, moved, holds_at, on_till, back_till}
use Rattle.command.specs.declared.code.Instr.{Instr as Code}
use Rattle.command.proofs.Times.{on_till_stuck}
use Rattle.command.proofs.Picks.{by_test}
use Rattle.trial.specs.declared.moments.Moment.{Moment}
use Rattle.trial.specs.declared.debugger.Numbered.{Numbered}
use Rattle.trial.specs.Kept.{Holds}

pub moved_as : {is : List Code} {fed : List ℕ} {past : List Moment} {t : ℕ} {ws : List ℕ} {bs : List Numbered} {n : ℕ} (w : Plain) (u v : ℕ)
    → u ≡ v → Holds is fed past t ws bs n (moved w v) → Holds is fed past t ws bs n (moved w u)
moved_as {is} {fed} {past} {t} {ws} {bs} {n} w u v e h = subst (λ z. Holds is fed past t ws bs n (moved w z)) (sym e) h

module _ (w : Plain) (bs : List Break) (t n i : ℕ) (e : on_till w bs w.now n ≡ on_till w bs t (n - i)) where
  pub on_stuck : goes_on w.program w.ins t ≡ false → on_till w bs w.now n ≡ t
  on_stuck g = e ∙ on_till_stuck w bs t (n - i) g

  pub on_done : n ≤ i → on_till w bs w.now n ≡ t
  unfolding on_till
  on_done le = let z : n - i ≡ 0 = omega arith in e ∙ ap (on_till w bs t) z

  module _ (u : ℕ) (lt : i < n) (f : u ≡ t + 1) (g : goes_on w.program w.ins t ≡ true) where
    left : n - i ≡ suc (n - (i + 1))
    left = omega arith

    on : u ≡ suc t
    on = omega arith

    pub on_more : holds_at w bs u ≡ false → on_till w bs w.now n ≡ on_till w bs u (n - (i + 1))
    unfolding on_till
    on_more h =
        let k : holds_at w bs (suc t) ≡ false = subst (λ z. holds_at w bs z ≡ false) on h in
        e ∙ ap (on_till w bs t) left ∙ (rw (on, g, k) refl)

    pub on_hit : holds_at w bs u ≡ true → on_till w bs w.now n ≡ u
    unfolding on_till
    on_hit h =
        let k : holds_at w bs (suc t) ≡ true = subst (λ z. holds_at w bs z ≡ true) on h in
        e ∙ ap (on_till w bs t) left ∙ (rw (on, g, k) refl)

module _ (w : Plain) (bs : List Break) (t n i : ℕ) (e : back_till w bs w.now n ≡ back_till w bs t (n - i)) where
  pub back_zero : t ≡ 0 → back_till w bs w.now n ≡ t
  unfolding back_till
  back_zero z = e ∙ (rw z refl)

  pub back_done : n ≤ i → back_till w bs w.now n ≡ t
  unfolding back_till
  back_done le = let z : n - i ≡ 0 = omega arith in e ∙ ap (back_till w bs t) z ∙ none t
    where
      none : (t : ℕ) → back_till w bs t 0 ≡ t
      none zero = refl
      none (suc t) = refl

  module _ (u : ℕ) (lt : i < n) (pos : 0 < t) (f : u ≡ t - 1) where
    less : n - i ≡ suc (n - (i + 1))
    less = omega arith

    from : t ≡ suc u
    from = omega arith

    one_back : back_till w bs w.now n ≡ back_till w bs (suc u) (suc (n - (i + 1)))
    one_back = e ∙ ap (λ z. back_till w bs z (n - i)) from ∙ ap (back_till w bs (suc u)) less

    pub back_more : (0 < u → holds_at w bs u ≡ false) → back_till w bs w.now n ≡ back_till w bs u (n - (i + 1))
    unfolding back_till
    back_more h =
        one_back
        ∙ by_test (eqb u 0)
        (λ (z : eqb u 0 ≡ true). let q : u ≡ 0 = eqb-true u 0 z in rw (z, q) refl)
        (λ (z : eqb u 0 ≡ false). let q : u ≡ 0 → ⊥ = eqb-false u 0 z in rw (z, h (omega arith)) refl)

    pub back_hit : (0 < u → holds_at w bs u ≡ true) → back_till w bs w.now n ≡ u
    unfolding back_till
    back_hit h =
        one_back
        ∙ by_test (eqb u 0)
        (λ (z : eqb u 0 ≡ true). let q : u ≡ 0 = eqb-true u 0 z in rw (z, q) refl)
        (λ (z : eqb u 0 ≡ false). let q : u ≡ 0 → ⊥ = eqb-false u 0 z in rw (z, h (omega arith)) refl)

-- back, where nothing is asked
pub back_freely : (w : Plain) (t n : ℕ) → back_till w [] t n ≡ t - n
unfolding back_till
back_freely w zero n = omega arith
back_freely w (suc t) zero = omega arith
back_freely w (suc t) (suc n) =
    by_test (eqb t 0)
    (λ (z : eqb t 0 ≡ true). let q : t ≡ 0 = eqb-true t 0 z in rw z (omega arith))
    (λ (z : eqb t 0 ≡ false). rw z (back_freely w t n ∙ omega arith))
