-- The plain debugger's times: what a break holds after, and where going on comes to, cut anywhere. Assumes nothing.
use Rattle.std.proofs.Common.{◌≡◌, ℕ, zero, suc, ◌+◌, ◌-◌, ◌≤◌, Bool, true, false, not, ◌&&◌, eqb, ltb, List, [], sym, refl, ap, suc-add, zero-add, arith}
use Rattle.std.proofs.lemmas.Bool.{lt-ltb, le-ltb, ltb-false, and_right}
use Rattle.std.proofs.lemmas.Bool.Decides.{nat_tests}
use Rattle.command.specs.Machine.{pick, any, is_running, goes_on, word_at}
use Rattle.command.specs.Plain.{Plain, Break, at_time, holds, holds_at, on_till, changes_at, apart}
use Rattle.command.proofs.Picks.{pick_both, by_test}
use Rattle.command.proofs.Stops.{on_stop}

-- `suc t - 1` does not compute: what holds, or changes, after one more step
pub holds_after : (w : Plain) (bs : List Break) (t : ℕ) → holds_at w bs (suc t) ≡ any (holds (at_time w t) (at_time w (suc t))) bs
holds_after w bs t = let e : suc t - 1 ≡ t = omega arith in ap (λ (k : ℕ). any (holds (at_time w k) (at_time w (suc t))) bs) e

pub changes_after : (w : Plain) (a t : ℕ) → changes_at w a (suc t) ≡ not (eqb (word_at (at_time w t).words a) (word_at (at_time w (suc t)).words a))
changes_after w a t = let e : suc t - 1 ≡ t = omega arith in ap (λ (k : ℕ). not (eqb (word_at (at_time w k).words a) (word_at (at_time w (suc t)).words a))) e

-- did going on from t stop at u since a break holds there?
abbrev pub stopped : Plain → List Break → ℕ → ℕ → Bool
stopped w bs t u = ltb t u && holds_at w bs u

pub not_stopped_here : (w : Plain) (bs : List Break) (t : ℕ) → stopped w bs t t ≡ false
not_stopped_here w bs t = rw (le-ltb t t (omega arith))

pub stopped_next : (w : Plain) (bs : List Break) (t : ℕ) → holds_at w bs (suc t) ≡ true → stopped w bs t (suc t) ≡ true
stopped_next w bs t e = rw (lt-ltb t (suc t) (omega arith)) e

-- one step more in front changes nothing of it
pub stopped_later : (w : Plain) (bs : List Break) (t u : ℕ) → suc t ≤ u → holds_at w bs (suc t) ≡ false → stopped w bs (suc t) u ≡ stopped w bs t u
stopped_later w bs t u h e =
    by_test (ltb (suc t) u)
    (λ l. rw (l, lt-ltb t u h))
    (λ l. let f : u ≡ suc t = omega (arith, ltb-false (suc t) u l) in rw (l, f, e) (sym (and_right (ltb t (suc t)) false refl)))

-- nothing holds where there are no breaks
pub never_stopped : (w : Plain) (t u : ℕ) → stopped w [] t u ≡ false
never_stopped w t u = and_right (ltb t u) false refl

-- where it doesn't go on, it stays
pub on_till_stuck : (w : Plain) (bs : List Break) (t n : ℕ) → goes_on w.program w.ins t ≡ false → on_till w bs t n ≡ t
unfolding on_till
on_till_stuck w bs t zero e = refl
on_till_stuck w bs t (suc n) e = rw e

-- GOING ON CAN BE CUT: by n + m it comes to where it comes by n, if a break holds there, and else by m from there
pub on_till_cut : (w : Plain) (bs : List Break) (t n m : ℕ) →
    on_till w bs t (n + m) ≡ pick (stopped w bs t (on_till w bs t n)) (on_till w bs t n) (on_till w bs (on_till w bs t n) m)
unfolding on_till
on_till_cut w bs t zero m = rw (zero-add, not_stopped_here w bs t)
on_till_cut w bs t (suc n) m =
    rw suc-add
    (by_test (goes_on w.program w.ins t)
    (λ g. by_test (holds_at w bs (suc t))
    (λ e. rw (g, e, stopped_next w bs t e))
    (λ e. rw (g, e, ← (stopped_later w bs t (on_till w bs (suc t) n) (on_stop w bs (suc t) n).0 e)) (on_till_cut w bs (suc t) n m)))
    (λ g. rw (g, not_stopped_here w bs t) (sym (on_till_stuck w bs t m g))))

pub forward_cut : (w : Plain) (t n m : ℕ) → on_till w [] t (n + m) ≡ on_till w [] (on_till w [] t n) m
forward_cut w t n m = rw (on_till_cut w [] t n m, never_stopped w t (on_till w [] t n))

-- where it comes to it runs, if it did where it came from
pub on_till_runs : (w : Plain) (bs : List Break) (t n : ℕ) → is_running (at_time w t).status ≡ true → is_running (at_time w (on_till w bs t n)).status ≡ true
unfolding on_till
on_till_runs w bs t zero h = h
on_till_runs w bs t (suc n) h =
    pick_both (λ (u : ℕ). is_running (at_time w u).status ≡ true) (goes_on w.program w.ins t) _ _
    (λ g. pick_both (λ (u : ℕ). is_running (at_time w u).status ≡ true) (holds_at w bs (suc t)) _ _
    (λ _. g)
    (λ _. on_till_runs w bs (suc t) n g))
    (λ _. h)

-- how far apart, going on and going back
pub apart_on : (t u : ℕ) → t ≤ u → apart t u ≡ u - t
apart_on t u h = grind (arith, nat_tests)

pub apart_back : (t u : ℕ) → u ≤ t → apart t u ≡ t - u
apart_back t u h = grind (arith, nat_tests)
