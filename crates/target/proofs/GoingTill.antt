-- What the processor does when it is told to go on, in the plain debugger's times: where it comes to, by how much, whether a break holds, and why
-- it stopped. Assumes nothing.
use Rattle.std.proofs.Common.{◌≡◌, ℕ, zero, suc, ◌+◌, ◌-◌, ◌≤◌, Bool, true, false, ltb, List, [], sym, refl, ap, ◌∙◌, arith}
use Rattle.std.proofs.lemmas.Bool.{lt-ltb, le-ltb}
use Rattle.command.specs.Machine.{pick, any, State, state_at, goes_on}
use Rattle.command.specs.Plain.{Plain, Break, at_time, holds, holds_at, on_till, status_number}
use Rattle.target.specs.Run.{going, Came, came_to}
use Rattle.command.proofs.Picks.{by_test}
use Rattle.command.proofs.Stops.{on_stop}
use Rattle.command.proofs.Times.{holds_after, stopped, not_stopped_here, stopped_next, stopped_later, never_stopped}

-- why it stopped at u, going on from t by at most n: 0 if a break holds, or it was that far
abbrev pub why_at : Plain → List Break → ℕ → ℕ → ℕ → ℕ
why_at w bs t n u = pick (stopped w bs t u) 0 (pick (ltb u (t + n)) (status_number (at_time w (suc u)).status) 0)

-- all of it, by where it comes to
abbrev pub came_at : Plain → List Break → ℕ → ℕ → ℕ → ℕ → Came
came_at w bs t n k u = came_to (at_time w u) (k + (u - t)) (stopped w bs t u) (why_at w bs t n u)

came_same : {s s₁ : State} {k k₁ y y₁ : ℕ} {h h₁ : Bool} → s ≡ s₁ → k ≡ k₁ → h ≡ h₁ → y ≡ y₁ → came_to s k h y ≡ came_to s₁ k₁ h₁ y₁
came_same p q r t = λ i. came_to (p i) (q i) (r i) (t i)

-- one step more in front
further : (w : Plain) (bs : List Break) (t n k u : ℕ) → suc t ≤ u → holds_at w bs (suc t) ≡ false → came_at w bs (suc t) n (suc k) u ≡ came_at w bs t (suc n) k u
further w bs t n k u h e =
    let s = stopped_later w bs t u h e in
    let m : suc t + n ≡ t + suc n = omega arith in
    came_same refl (omega arith) s (rw (s, m))

-- GOING IS THE PLAIN DEBUGGER'S GOING ON
pub going_till : (w : Plain) (bs : List Break) (t n k : ℕ) →
    going n w.program w.ins bs (at_time w t) k ≡ came_at w bs t n k (on_till w bs t n)
unfolding going on_till state_at
going_till w bs t zero k =
    came_same refl (omega arith) (sym (not_stopped_here w bs t)) (rw (not_stopped_here w bs t, le-ltb t (t + 0) (omega arith)))
going_till w bs t (suc n) k =
    by_test (goes_on w.program w.ins t)
    (λ g. by_test (holds_at w bs (suc t))
    (λ e.
    let f : any (holds (at_time w t) (at_time w (suc t))) bs ≡ true = sym (holds_after w bs t) ∙ e in
    let x = stopped_next w bs t e in
    rw (g, f, e) (came_same refl (omega arith) (sym x) (rw x)))
    (λ e.
    let f : any (holds (at_time w t) (at_time w (suc t))) bs ≡ false = sym (holds_after w bs t) ∙ e in
    let u = on_till w bs (suc t) n in
    rw (g, f, e) (going_till w bs (suc t) n (suc k) ∙ further w bs t n k u (on_stop w bs (suc t) n).0 e)))
    (λ g.
    let x = not_stopped_here w bs t in
    rw g (came_same refl (omega arith) (sym x) (rw (x, lt-ltb t (t + suc n) (omega arith)))))

-- with no breaks it can't stop for one
pub going_forward : (w : Plain) (t n k : ℕ) →
    ((going n w.program w.ins [] (at_time w t) k).state ≡ at_time w (on_till w [] t n))
    × ((going n w.program w.ins [] (at_time w t) k).by ≡ k + (on_till w [] t n - t))
    × ((going n w.program w.ins [] (at_time w t) k).hit ≡ false)
going_forward w t n k =
    let e = going_till w [] t n k in
    (ap (λ (c : Came). c.state) e, ap (λ (c : Came). c.by) e, ap (λ (c : Came). c.hit) e ∙ never_stopped w t (on_till w [] t n))
