-- A plan of the checkpoints is played: an engine that tells the processor its acts, one by one, comes to where the plan does, with the states in the slots
-- at the table's times. What is done after it is left open. Assumes nothing.
use Rattle.std.proofs.Common.{◌≡◌, ℕ, suc, ◌+◌, ◌≤◌, false, List, [], ◌∷◌, length, sym, refl, ap, ◌∙◌, subst, zero-add, arith}
use Rattle.std.proofs.lemmas.Bool.{lt-ltb}
use Rattle.command.specs.Plain.{Plain, moved, at_time}
use Rattle.command.proofs.PastStays.{Runs_at}
use Rattle.command.proofs.Running.{ran_till}
use Rattle.target.specs.Run.{Event, came, next, goes, keeps, takes_up, Slot, Ran, Came, came_to, world, with_state, going}
use Rattle.target.specs.Run as run
use Rattle.target.proofs.Goings.{going_from}
use Rattle.checkpoints.specs.Slots.{Table, put, Act, take, go, keep, Runs}
use Rattle.machine.specs.Engine.{Write, written, plan, cells}
use Rattle.machine.specs.Plans.{Plans}
use Rattle.machine.proofs.Runs.{Ends, acts}
use Rattle.machine.proofs.Kept.{target_of, States, slots_with, states_kept}

-- what the processor is told for an act, and what is heard then
abbrev pub told_as : Act → run.Act
told_as (take k x) = takes_up k
told_as (go n) = goes n []
told_as (keep k) = keeps k

abbrev pub heard : Act → Event
heard (take k x) = next
heard (go n) = came n false 0
heard (keep k) = next

-- told to go on by n, where it ran later, it comes by n
pub goes_by : (w : Plain) (far a n : ℕ) → Runs_at w far → a + n ≤ far → going n w.program w.ins [] (at_time w a) 0 ≡ came_to (at_time w (a + n)) n false 0
goes_by w far a n r h =
    going_from w.program w.ins a n 0 (ran_till w.program w.ins far (a + n) h r) ∙ ap (λ (x : ℕ). came_to (at_time w (a + n)) x false 0) (zero-add n)

-- Mem says what memory and event are when these acts are left.
module _ (plans : Plans) (b : ℕ) (P : Ran → Type 0) (w : Plain) (far : ℕ) (ran_far : Runs_at w far) (Q : Table → ℕ → ℕ → Type 0) (ss : List (List ℕ)) (steps : ℕ)
    (Mem : List Act → List ℕ → Event → Type 0)
    (sized : (left : List Act) (m : List ℕ) (ev : Event) → Mem left m ev → length m ≡ cells)
    (tells : (x : Act) (left : List Act) (m : List ℕ) (ev : Event) → Mem (x ∷ left) m ev →
    (ws : List Write) × (plans m ev ≡ plan ws (told_as x)) × Mem left (written ws m) (heard x))
    (after-all : (sl : List Slot) (m : List ℕ) (ev : Event) (T : Table) (a c : ℕ) → Mem [] m ev → States w sl T → Runs_at w a → Q T a c →
    Ends plans b P (world (target_of (moved w a) sl) m) ev ss (steps + c)) where
  abbrev Goal : List Act → ℕ → ℕ → List Slot → List ℕ → Event → Type 0
  Goal left a c sl m ev = Ends plans (length left + b) P (world (target_of (moved w a) sl) m) ev ss (steps + c)

  one_more : (left : List Act) (x : Act) (a c : ℕ) (sl : List Slot) (m : List ℕ) (ev : Event) →
      Ends plans (suc (length left + b)) P (world (target_of (moved w a) sl) m) ev ss (steps + c) → Goal (x ∷ left) a c sl m ev
  one_more left x a c sl m ev h =
      let e : suc (length left + b) ≡ suc (length left) + b = omega arith in
      subst (λ (n : ℕ). Ends plans n P (world (target_of (moved w a) sl) m) ev ss (steps + c)) e h

  pub plays : (left : List Act) (T : Table) (a c : ℕ) (sl : List Slot) (m : List ℕ) (ev : Event) → Runs far left T a c Q → Mem left m ev → States w sl T → Runs_at w a →
      Ends plans (length left + b) P (world (target_of (moved w a) sl) m) ev ss (steps + c)
  unfolding Runs
  plays [] T a c sl m ev q h s r =
      let e : b ≡ 0 + b = omega arith in
      subst (λ (n : ℕ). Ends plans n P (world (target_of (moved w a) sl) m) ev ss (steps + c)) e (after-all sl m ev T a c h s r q)
  plays (take k x ∷ left) T a c sl m ev (has, q) h s r =
      let t = tells (take k x) left m ev h in
      let o = s k x has in
      one_more left (take k x) a c sl m ev
      (acts {ws = t.0} {a = takes_up k} (sized (take k x ∷ left) m ev h) t.1
      (at_time w x, [], o.0, plays left T x c sl (written t.0 m) next q t.2 s o.1))
  plays (go n ∷ left) T a c sl m ev (near, q) h s r =
      let t = tells (go n) left m ev h in
      let m₁ : List ℕ = written t.0 m in
      let e : going n w.program w.ins [] (at_time w a) 0 ≡ came_to (at_time w (a + n)) n false 0 = goes_by w far a n ran_far near in
      let z : steps + (c + n) ≡ steps + c + n = omega arith in
      let rest = plays left T (a + n) (c + n) sl m₁ (came n false 0) q t.2 s (ran_till w.program w.ins far (a + n) near ran_far) in
      one_more left (go n) a c sl m ev
      (acts {ws = t.0} {a = goes n []} (sized (go n ∷ left) m ev h) t.1 (
        refl,
        subst (λ (x : Came). Ends plans (length left + b) P (world (with_state (target_of (moved w a) sl) x.state) m₁) (came x.by x.hit x.why) ss (steps + c + x.by)) (sym e)
            (subst (λ (k : ℕ). Ends plans (length left + b) P (world (target_of (moved w (a + n)) sl) m₁) (came n false 0) ss k) z rest),
      ))
  plays (keep k ∷ left) T a c sl m ev (few, q) h s r =
      let t = tells (keep k) left m ev h in
      one_more left (keep k) a c sl m ev
      (acts {ws = t.0} {a = keeps k} (sized (keep k ∷ left) m ev h) t.1
      (lt-ltb k 256 (omega (arith, few)), plays left (put T k a) a c (slots_with w a sl k) (written t.0 m) next q t.2 (states_kept w a sl T k r s) r))
