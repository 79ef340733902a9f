-- Going on, a step at a time. Assumes nothing.
use Rattle.std.proofs.Common.{◌≡◌, ℕ, suc, ◌+◌, ◌-◌, ◌<◌, ◌≤◌, Bool, true, false, List, Some, None, Option, sym, refl, ap, ◌∙◌, subst, add-one, arith}
use Rattle.command.specs.Machine.{any, Instr, State as Model, running, is_running, step}
use Rattle.command.specs.Plain.{Break as Stop, holds, status_number}
use Rattle.target.specs.Run.{going, came_to}
use Rattle.processor.specs.declared.state.State.{State}
use Rattle.target.specs.declared.answers.Why.{Why}
use Rattle.target.specs.declared.answers.Why.TheVariants.{Halted, Waits, NoInstr, NoWord, ByZero}
use Rattle.processor.specs.declared.writing.Overwritten.{Overwritten}
use Rattle.target.specs.Whys.{status_of}
use Rattle.processor.specs.Like.{Base, Like, OnTo, Stays, CameTo}

left : (n by : ℕ) → by < n → n - by ≡ suc (n - (by + 1))
left n by h = omega arith

module _ (is : List Instr) (ins : List ℕ) (bs : List Stop) where
  pub goes_on : (n by : ℕ) (t : Model) → by < n → (step is ins t).status ≡ running → any (holds t (step is ins t)) bs ≡ false
      → going (n - by) is ins bs t by ≡ going (n - (by + 1)) is ins bs (step is ins t) (by + 1)
  unfolding going is_running
  goes_on n by t h r e = rw (left n by h, add-one) (simp (r, e))

  pub goes_hit : (n by : ℕ) (t : Model) → by < n → (step is ins t).status ≡ running → any (holds t (step is ins t)) bs ≡ true
      → going (n - by) is ins bs t by ≡ came_to (step is ins t) (by + 1) true 0
  unfolding going is_running
  goes_hit n by t h r e = rw (left n by h, add-one) (simp (r, e))

  pub goes_not : (n by : ℕ) (t : Model) → by < n → is_running (step is ins t).status ≡ false
      → going (n - by) is ins bs t by ≡ came_to t by false (status_number (step is ins t).status)
  unfolding going
  goes_not n by t h r = rw (left n by h) (simp r)

  pub goes_none : (n by : ℕ) (t : Model) → by ≤ n → n ≤ by → going (n - by) is ins bs t by ≡ came_to t by false 0
  unfolding going
  goes_none n by t h g = let e : n - by ≡ 0 = omega arith in rw e refl

pub not_running : (y : Why) → is_running (status_of y) ≡ false
unfolding is_running
not_running Halted = refl
not_running Waits = refl
not_running NoInstr = refl
not_running NoWord = refl
not_running ByZero = refl

-- a state to go on from, from which the rest makes up the whole
abbrev pub SoFar : List Instr → List ℕ → List Stop → Base → State → ℕ → ℕ → Model → Type 0
SoFar is ins bs b m n by s = (t : Model) × Like b m t × (going n is ins bs s 0 ≡ going (n - by) is ins bs t by)

module _ (is : List Instr) (ins : List ℕ) (bs : List Stop) (b : Base) (m m₁ : State) (n by : ℕ) (s : Model) where
  pub far_on : (w : Option Overwritten) (h : Bool) → by < n → SoFar is ins bs b m n by s
      → ((t : Model) → Like b m t → OnTo b m₁ w t (step is ins t))
      → ((t u : Model) → OnTo b m₁ w t u → h ≡ any (holds t u) bs) → h ≡ false → SoFar is ins bs b m₁ n (by + 1) s
  far_on w h lt (t, l, e) f g z =
      let o = f t l in
      (step is ins t, o.like, e ∙ goes_on is ins bs n by t lt o.like.runs (sym (g t _ o) ∙ z))

  pub far_hit : (w : Option Overwritten) (h : Bool) → by < n → SoFar is ins bs b m n by s
      → ((t : Model) → Like b m t → OnTo b m₁ w t (step is ins t))
      → ((t u : Model) → OnTo b m₁ w t u → h ≡ any (holds t u) bs) → h ≡ true
      → CameTo b m₁ (record { by = by + 1; hit = true; why = None }) (going n is ins bs s 0)
  far_hit w h lt (t, l, e) f g z =
      let o = f t l in
      let k = e ∙ goes_hit is ins bs n by t lt o.like.runs (sym (g t _ o) ∙ z) in
      subst (CameTo b m₁ (record { by = by + 1; hit = true; why = None })) (sym k) (record { like = o.like; by = refl; hit = refl; why = refl })

  pub far_not : (y : Why) → by < n → SoFar is ins bs b m n by s
      → ((t : Model) → Like b m t → Stays b m₁ (status_of y) t (step is ins t))
      → CameTo b m₁ (record { by = by; hit = false; why = Some y }) (going n is ins bs s 0)
  far_not y lt (t, l, e) f =
      let o = f t l in
      let k = e ∙ goes_not is ins bs n by t lt (ap is_running o.why ∙ not_running y) ∙ ap (λ z. came_to t by false (status_number z)) o.why in
      subst (CameTo b m₁ (record { by = by; hit = false; why = Some y })) (sym k) (record { like = o.like; by = refl; hit = refl; why = refl })

  pub far_all : SoFar is ins bs b m n n s → CameTo b m (record { by = n; hit = false; why = None }) (going n is ins bs s 0)
  far_all (t, l, e) =
      subst (CameTo b m (record { by = n; hit = false; why = None })) (sym (e ∙ goes_none is ins bs n n t (omega arith) (omega arith))) (record { like = l; by = refl; hit = refl; why = refl })
