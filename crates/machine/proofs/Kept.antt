-- The states that are kept: each slot that a table speaks of holds the state at its time. Assumes nothing.
use Rattle.std.proofs.Common.{◌≡◌, ℕ, zero, suc, ◌/◌, ◌≤◌, false, ◌⊎◌, List, [], ◌∷◌, sym, refl, ap, ◌∙◌, subst, inl, inr, ⊎_elim, arith, None, Some}
use Rattle.std.proofs.lemmas.Bool.{ne_eqb, cases_eq}
use Rattle.command.specs.Machine.{State, is_running, state_at, one, goes_on}
use Rattle.command.specs.Plain.{Plain, at_time, moved, on_till}
use Rattle.command.proofs.PastStays.{given, Runs_at, state_stays, runs_still}
use Rattle.command.proofs.Times.{on_till_stuck}
use Rattle.target.specs.Run.{Slot, Target, slot_of, keep_in}
use Rattle.target.proofs.Slots.{kept_found, kept_others}
use Rattle.checkpoints.specs.Slots.{Table, put}
use Rattle.checkpoints.specs.Ready.{Ready}
use Rattle.checkpoints.specs.Statements.{StaysReady}
use Rattle.checkpoints.proofs.Tables.{put_here, put_else}
use Rattle.checkpoints.proofs.Stand.{stays_ready}

-- the processor as it is at the plain debugger's time
abbrev pub target_of : Plain → List Slot → Target
target_of w sl = record { program = w.program; fed = w.ins; state = at_time w w.now; slots = sl }

-- the slots hold the states at the table's times, at which it ran
abbrev pub States : Plain → List Slot → Table → Type 0
States w sl T = (k x : ℕ) → T k ≡ Some x → (slot_of sl k ≡ at_time w x ∷ []) × Runs_at w x

pub states_none : (w : Plain) (sl : List Slot) → States w sl (λ _. None)
states_none w sl k x e = let z : zero ≡ suc zero = cc in absurd (omega (arith, z))

-- the slots once the state at a time is kept in slot j
abbrev pub slots_with : Plain → ℕ → List Slot → ℕ → List Slot
slots_with w t sl j = (keep_in (target_of (moved w t) sl) j).slots

pub states_kept : (w : Plain) (t : ℕ) (sl : List Slot) (T : Table) (j : ℕ) → Runs_at w t → States w sl T → States w (slots_with w t sl j) (put T j t)
states_kept w t sl T j r s k x h =
    ⊎_elim
    (λ (e : k ≡ j).
    let f : Some t ≡ Some x = sym (put_here T j t) ∙ ap (put T j t) (sym e) ∙ h in
    let tx : t ≡ x = cc in (
      ap (slot_of (slots_with w t sl j)) e ∙ kept_found (target_of (moved w t) sl) j ∙ ap (λ (z : ℕ). at_time w z ∷ []) tx,
      subst (Runs_at w) tx r,
    ))
    (λ (d : k ≡ j → ⊥).
    let o = s k x (sym (put_else T j t k d) ∙ h) in
    (kept_others (target_of (moved w t) sl) j k (ne_eqb j k (λ e. d (sym e))) ∙ o.0, o.1))
    (cases_eq k j)

-- what comes in later leaves them right
pub states_given : (w : Plain) (vs : List ℕ) (sl : List Slot) (T : Table) → States w sl T → States (given w vs) sl T
states_given w vs sl T s k x h =
    let o = s k x h in
    (o.0 ∙ ap (λ (z : State). z ∷ []) (sym (state_stays w vs x o.1)), runs_still w vs x o.1)

-- THE SLOTS AT A TIME, with these gaps: nothing was loaded, and no step was done; or they are ready for it
abbrev pub Kept : Plain → List Slot → List ℕ → Type 0
Kept w sl gs = ((w.program ≡ []) × (w.now ≡ 0)) ⊎ ((T : Table) × States w sl T × Ready T w.now gs)

pub kept_given : (w : Plain) (vs : List ℕ) (sl : List Slot) (gs : List ℕ) → Kept w sl gs → Kept (given w vs) sl gs
kept_given w vs sl gs (inl e) = inl e
kept_given w vs sl gs (inr (T, s, r)) = inr (T, states_given w vs sl T s, r)

-- no step is done where nothing was loaded
pub empty_stays : (w : Plain) (t n : ℕ) → w.program ≡ [] → t ≡ 0 → on_till w [] t n ≡ 0
unfolding is_running state_at one
empty_stays w t n e z = ap (λ (x : ℕ). on_till w [] x n) z ∙ on_till_stuck w [] 0 n (ap (λ is. goes_on is w.ins 0) e ∙ stuck)
  where
    stuck : goes_on [] w.ins 0 ≡ false
    stuck = refl

-- up to the next multiple nothing is to be done
pub kept_later : (w : Plain) (t u n : ℕ) (sl : List Slot) (gs : List ℕ) → on_till w [] t n ≡ u → t ≤ u → u / 4096 ≡ t / 4096 → Kept (moved w t) sl gs → Kept (moved w u) sl gs
unfolding StaysReady
kept_later w t u n sl gs o le same (inl e) = inl (e.0, sym o ∙ empty_stays w t n e.0 e.1)
kept_later w t u n sl gs o le same (inr (T, s, r)) = inr (T, s, stays_ready T t u gs le same r)
