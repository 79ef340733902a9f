-- A ride: strides up to the next multiple of the spacing, one after another, with states kept at each that is reached. What is done on arrival is left
-- open, so that every command that goes on can use it. Assumes nothing.
use Rattle.std.proofs.Common.{◌≡◌, ℕ, zero, suc, ◌+◌, ◌-◌, ◌*◌, ◌/◌, ◌%◌, ◌<◌, ◌≤◌, Bool, not, ◌&&◌, eqb, List, [], ◌∷◌, length, sym, refl, ap, ◌∙◌, subst, ⊎_elim, mod-eq_of_lt, arith}
use Rattle.std.proofs.lemmas.Bool.{and_parts, and_cases, eqb-true, eqb-false, not-true, not-false}
use Rattle.command.specs.Machine.{pick, State}
use Rattle.command.specs.Plain.{Plain, moved, at_time, on_till}
use Rattle.command.proofs.Picks.{by_test}
use Rattle.command.proofs.PastStays.{Runs_at}
use Rattle.command.proofs.Times.{on_till_runs}
use Rattle.target.specs.Run.{Event, came, next, goes, Slot, Ran, Came, world, with_state, going}
use Rattle.checkpoints.specs.Numbers.{most_time}
use Rattle.checkpoints.specs.Strides.{stride}
use Rattle.machine.specs.Engine.{Write, puts, written, plan, planned, on_came, went, come_to, arrived, set_off, spacing, cell, cells, limit, phase, time, steps_left, going_on}
use Rattle.machine.specs.Plans.{Plans, Agrees}
use Rattle.machine.proofs.Memory.{cell_put, alike_written}
use Rattle.machine.proofs.Runs.{Ends, ends_within, acts}
use Rattle.machine.proofs.GapCells.{gaps_of}
use Rattle.machine.proofs.Kept.{target_of, Kept, kept_later}
use Rattle.machine.proofs.Stands.{in_phase}
use Rattle.machine.proofs.Reaches.{At, Makes, lasts_moved, reached}
use Rattle.machine.proofs.Strides.{left_after, Strode, strode, stride_long}

module _ (plans : Plans) (agrees : Agrees plans) (P : Ran → Type 0) (b : ℕ) (w : Plain) (o from_time from_steps top : ℕ) (low : top < most_time) where
  -- what holds at a time on the way, with so many steps left, after so many
  pub record Way (t n k : ℕ) : Type 0 where
    pub steps : k + from_time ≡ t + from_steps
    pub near : t + n ≤ top
    pub running : Runs_at w t

  -- the end of the ride, in b turns, where the command goes on in its own way
  abbrev pub Arrival : Type 0
  Arrival =
      (sl : List Slot) (m : List ℕ) (ev : Event) (ws : List Write) (n k : ℕ) → Way o n k → length m ≡ cells → Makes w sl o n ws m →
      plans m ev ≡ arrived ws o → Ends plans b P (world (target_of (moved w o) sl) m) ev [] k

  -- the turns of so many steps: at most a going on and 31 keeps for each
  abbrev pub turns : ℕ → ℕ
  turns f = b + 32 * f

  -- from any such place it comes there, if there are at most f steps left
  abbrev pub Onward : ℕ → Type 0
  Onward f =
      (sl : List Slot) (m : List ℕ) (ev : Event) (ws : List Write) (t n k : ℕ) → n ≤ f → Way t n k → length m ≡ cells → Makes w sl t n ws m → on_till w [] t n ≡ o →
      plans m ev ≡ set_off ws t n → Ends plans (turns f) P (world (target_of (moved w t) sl) m) ev [] k

  -- after a stride, by what is told of it
  landed : (f : ℕ) → Onward f → (sl : List Slot) (m : List ℕ) (t n k a : ℕ) (c : Came) → At w sl going_on t n m → n ≤ suc f → Way t n k → 1 ≤ a → a ≤ n → a ≤ spacing - t % spacing →
      on_till w [] t n ≡ o → Strode w t a n c →
      Ends plans (31 + turns f) P (world (target_of (moved w (on_till w [] t a)) sl) m) (came c.by c.hit c.why) [] (k + c.by)
  unfolding planned on_came went come_to
  landed f ih sl m t n k a c at le y one most no_pass there s =
      by_test (eqb (u % spacing) 0 && not (eqb c.by 0))
      (λ e.
      let z : u % spacing ≡ 0 = eqb-true _ _ (and_parts _ _ e).0 in
      let by_some : c.by ≡ 0 → ⊥ = eqb-false c.by 0 (not-true (eqb c.by 0) (and_parts (eqb (u % spacing) 0) _ e).1) in
      reached plans agrees P (turns f) w sl m ev t u a r [] (k + c.by) at.lasts y₁.running (omega (arith, y₁.near, low)) (omega (arith, y₁.near, low)) refl
      (omega (arith, s.by, by_some)) (omega (arith, s.by, s.far, no_pass, z, by_some)) (q ∙ ap (λ (x : Bool). come_to x u r) e)
      (λ sl₁ m₂ sz₂ makes₂ q₂. ih sl₁ m₂ next [] u r (k + c.by) few y₁ sz₂ makes₂ rest q₂))
      (λ e.
      let same : u / spacing ≡ t / spacing =
      ⊎_elim (λ x. let z : u % spacing ≡ 0 → ⊥ = eqb-false _ _ x in omega (arith, s.by, s.far, no_pass, z))
      (λ x. let z : c.by ≡ 0 = eqb-true _ _ (not-false _ x) in let i : u ≡ t = omega (arith, s.by, z) in ap (λ (x : ℕ). x / spacing) i)
      (and_cases _ _ e) in
      let kept : Kept (moved w u) sl (gaps_of m) = kept_later w t u a sl (gaps_of m) refl (omega (arith, s.by)) same at.lasts.kept in
      ends_within {b = turns f} (omega arith)
      (ih sl m ev ws u r (k + c.by) few y₁ sz (makes kept) rest (q ∙ ap (λ (x : Bool). come_to x u r) e)))
    where
      u : ℕ
      u = on_till w [] t a

      r : ℕ
      r = left_after n c

      ev : Event
      ev = came c.by c.hit c.why

      ws : List Write
      ws = puts time u ∷ puts steps_left r ∷ []

      sz : length m ≡ cells
      sz = at.lasts.sized

      few : r ≤ f
      few = omega (arith, s.fewer, le, one)

      rest : on_till w [] u r ≡ o
      rest = s.rest ∙ there

      y₁ : Way u r (k + c.by)
      y₁ = record { steps = omega (arith, y.steps, s.by); near = omega (arith, y.near, s.far, s.fewer, most); running = on_till_runs w [] t a y.running }

      u_small : u < limit
      u_small = omega (arith, y₁.near, low)

      time_came : (cell m time + c.by) % limit ≡ u
      time_came = ap (λ (i : ℕ). i % limit) (omega (arith, at.lasts.time_is, s.by)) ∙ mod-eq_of_lt u_small

      q : plans m ev ≡ come_to (eqb (u % spacing) 0 && not (eqb c.by 0)) u r
      q =
          in_phase plans m ev going_on agrees refl refl at.phase_is
          ∙ ap (λ (i : ℕ). on_came i m c.by c.hit c.why) at.phase_is
          ∙ ap (λ (i : ℕ). come_to (eqb (i % spacing) 0 && not (eqb c.by 0)) i (pick (not c.hit && eqb c.why 0) (cell m steps_left - c.by) 0)) time_came
          ∙ ap (λ (i : ℕ). come_to (eqb (u % spacing) 0 && not (eqb c.by 0)) u (left_after i c)) at.left_is

      makes : Kept (moved w u) sl (gaps_of m) → Makes w sl u r ws m
      makes kept p e =
          let ws₁ : List Write = puts phase p ∷ ws in
          record {
            lasts = lasts_moved w t u at.lasts (alike_written ws₁ m refl) (cell_put ws₁ m time sz refl ∙ mod-eq_of_lt u_small) kept;
            phase_is = cell_put ws₁ m phase sz refl ∙ e;
            left_is = cell_put ws₁ m steps_left sz refl ∙ mod-eq_of_lt (omega (arith, y₁.near, low));
          }

  -- a stride
  strides : (f : ℕ) → Onward f → (sl : List Slot) (m : List ℕ) (ev : Event) (ws : List Write) (t n k : ℕ) → (n ≡ 0 → ⊥) → n ≤ suc f → Way t n k → length m ≡ cells →
      Makes w sl t n ws m → on_till w [] t n ≡ o → plans m ev ≡ plan (puts phase going_on ∷ ws) (goes (stride t n) []) →
      Ends plans (suc (31 + turns f)) P (world (target_of (moved w t) sl) m) ev [] k
  strides f ih sl m ev ws t n k ne le y sz makes there q =
      acts {b = 31 + turns f} {ws = puts phase going_on ∷ ws} {a = goes a []} sz q (
        refl,
        subst (λ (x : State). Ends plans (31 + turns f) P (world (with_state (target_of (moved w t) sl) x) m₁) (came c.by c.hit c.why) [] (k + c.by)) (sym s.state)
            (landed f ih sl m₁ t n k a c (makes going_on refl) le y long.0 long.1 long.2 there s),
      )
    where
      a : ℕ
      a = stride t n

      m₁ : List ℕ
      m₁ = written (puts phase going_on ∷ ws) m

      long : (1 ≤ a) × (a ≤ n) × (a ≤ spacing - t % spacing)
      long = stride_long t n ne

      c : Came
      c = going a w.program w.ins [] (at_time w t) 0

      s : Strode w t a n c
      s = strode w t a n long.1

  -- nothing is left
  used_up : Arrival → (sl : List Slot) (m : List ℕ) (ev : Event) (ws : List Write) (t n k : ℕ) → n ≡ 0 → Way t n k → length m ≡ cells → Makes w sl t n ws m → on_till w [] t n ≡ o →
      plans m ev ≡ arrived ws t → Ends plans b P (world (target_of (moved w t) sl) m) ev [] k
  unfolding on_till
  used_up there sl m ev ws t n k z y sz r e q =
      subst (λ (x : ℕ). Way x n k → Makes w sl x n ws m → plans m ev ≡ arrived ws x → Ends plans b P (world (target_of (moved w x) sl) m) ev [] k)
      (sym (ap (λ (i : ℕ). on_till w [] t i) (sym z) ∙ e)) (λ y₁ r₁ q₁. there sl m ev ws n k y₁ sz r₁ q₁) y r q

  pub onward : (f : ℕ) → Arrival → Onward f
  unfolding set_off
  onward zero there sl m ev ws t n k le y sz r e q =
      let z : n ≡ 0 = omega (arith, le) in
      ends_within {b = b} (omega arith)
      (used_up there sl m ev ws t n k z y sz r e (q ∙ ap (λ (i : ℕ). set_off ws t i) z))
  onward (suc f) there sl m ev ws t n k le y sz r e q =
      by_test (eqb n 0)
      (λ z. ends_within {b = b} (omega arith)
      (used_up there sl m ev ws t n k (eqb-true n 0 z) y sz r e (q ∙ ap (λ (x : Bool). pick x (arrived ws t) (plan (puts phase going_on ∷ ws) (goes (stride t n) []))) z)))
      (λ z. ends_within {b = suc (31 + turns f)} (omega arith)
      (strides f (onward f there) sl m ev ws t n k (eqb-false n 0 z) le y sz r e
      (q ∙ ap (λ (x : Bool). pick x (arrived ws t) (plan (puts phase going_on ∷ ws) (goes (stride t n) []))) z)))
