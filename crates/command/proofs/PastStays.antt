-- What comes in later leaves the past as it was: states, breaks that hold, changes, and where going back comes to. Assumes nothing.
use Rattle.std.proofs.Common.{◌≡◌, ℕ, zero, suc, ◌-◌, true, not, eqb, List, [], ◌∷◌, ◌++◌, refl, ap, ◌∙◌, arith}
use Rattle.command.specs.Machine.{pick, any, State, is_running, word_at}
use Rattle.command.specs.Plain.{Plain, Break, at_time, holds, holds_at, back_till, changes_at, last_change}
use Rattle.command.specs.Statements.{PastSame}
use Rattle.command.proofs.Running.{ran_till, ran_at}
use Rattle.command.proofs.MoreInput.{past_same}

abbrev pub given : Plain → List ℕ → Plain
given w vs = record { program = w.program; ins = w.ins ++ vs; now = w.now; breaks = w.breaks; next = w.next }

abbrev pub Runs_at : Plain → ℕ → Type 0
Runs_at w t = is_running (at_time w t).status ≡ true

module _ (w : Plain) (vs : List ℕ) where
  pub state_stays : (t : ℕ) → Runs_at w t → at_time (given w vs) t ≡ at_time w t
  unfolding PastSame
  state_stays t h = past_same w.program w.ins vs t h

  before_stays : (t : ℕ) → Runs_at w t → at_time (given w vs) (t - 1) ≡ at_time w (t - 1)
  before_stays t h = state_stays (t - 1) (ran_till w.program w.ins t (t - 1) (omega arith) h)

  pub runs_still : (t : ℕ) → Runs_at w t → Runs_at (given w vs) t
  runs_still t h = ap (λ (s : State). is_running s.status) (state_stays t h) ∙ h

  pub holds_stays : (bs : List Break) (t : ℕ) → Runs_at w t → holds_at (given w vs) bs t ≡ holds_at w bs t
  holds_stays bs t h = λ i. any (holds (before_stays t h i) (state_stays t h i)) bs

  pub change_stays : (a t : ℕ) → Runs_at w t → changes_at (given w vs) a t ≡ changes_at w a t
  change_stays a t h = λ i. not (eqb (word_at (before_stays t h i).words a) (word_at (state_stays t h i).words a))

  pub last_change_stays : (a t : ℕ) → Runs_at w t → last_change (given w vs) a t ≡ last_change w a t
  unfolding last_change
  last_change_stays a zero h = refl
  last_change_stays a (suc t) h =
      let e = change_stays a (suc t) h in
      let r = last_change_stays a t (ran_at w.program w.ins t h) in
      λ i. pick (e i) (suc t ∷ []) (r i)

  pub back_till_stays : (bs : List Break) (t n : ℕ) → Runs_at w t → back_till (given w vs) bs t n ≡ back_till w bs t n
  unfolding back_till
  back_till_stays bs zero n h = refl
  back_till_stays bs (suc t) zero h = refl
  back_till_stays bs (suc t) (suc n) h =
      let b : Runs_at w t = ran_at w.program w.ins t h in
      let e = holds_stays bs t b in
      let r = back_till_stays bs t n b in
      λ i. pick (eqb t 0) 0 (pick (e i) t (r i))
