-- A stride: where going on by some of the steps that are left comes to, and how many are left then. Assumes nothing.
use Rattle.std.proofs.Common.{◌≡◌, ℕ, suc, ◌+◌, ◌-◌, ◌%◌, ◌<◌, ◌≤◌, Bool, true, false, not, ◌&&◌, eqb, ltb, [], sym, refl, ap, ◌∙◌, subst, ⊎_elim, arith}
use Rattle.std.proofs.lemmas.Bool.{ltb-true, ltb-false, ne_eqb, false≢true}
use Rattle.command.specs.Machine.{pick, goes_on}
use Rattle.command.specs.Plain.{Plain, at_time, on_till, status_number}
use Rattle.command.proofs.Running.{reason_not_0}
use Rattle.command.proofs.Stops.{on_stop}
use Rattle.command.proofs.Times.{never_stopped, on_till_stuck, forward_cut}
use Rattle.target.specs.Run.{Came, came_to, going}
use Rattle.target.proofs.GoingTill.{came_at, going_till}
use Rattle.checkpoints.specs.Strides.{stride}
use Rattle.machine.specs.Engine.{spacing}

-- how many of n steps are left after it came somewhere
abbrev pub left_after : ℕ → Came → ℕ
left_after n c = pick (not c.hit && eqb c.why 0) (n - c.by) 0

-- from t by a steps, of n that are left
pub record Strode (w : Plain) (t a n : ℕ) (c : Came) : Type 0 where
  pub state : c.state ≡ at_time w (on_till w [] t a)
  pub by : c.by + t ≡ on_till w [] t a
  pub far : on_till w [] t a ≤ t + a
  pub fewer : left_after n c ≤ n - a
  pub rest : on_till w [] (on_till w [] t a) (left_after n c) ≡ on_till w [] t n

module _ (w : Plain) (t a n : ℕ) (most : a ≤ n) where
  abbrev u : ℕ
  u = on_till w [] t a

  -- the rest of the way, from there
  cut : on_till w [] u (n - a) ≡ on_till w [] t n
  cut = sym (forward_cut w t a (n - a)) ∙ ap (λ (x : ℕ). on_till w [] t x) (again a n most)
    where
      again : (x y : ℕ) → x ≤ y → x + (y - x) ≡ y
      again x y h = omega (arith, h)

  -- it came less far than it was told to: it can't go on
  stuck : u < t + a → goes_on w.program w.ins u ≡ false
  stuck l =
      ⊎_elim (λ x. absurd (false≢true x.1)) (λ x. ⊎_elim (λ e. absurd (omega (arith, l, e))) (λ e. e) x) (on_stop w [] t a).4

  came_so : (y : ℕ) → (b : Bool) → ltb u (t + a) ≡ b → y ≡ pick b (status_number (at_time w (suc u)).status) 0 → Strode w t a n (came_to (at_time w u) (0 + (u - t)) false y)
  unfolding on_till
  came_so y true l e =
      let s : goes_on w.program w.ins u ≡ false = stuck (ltb-true u (t + a) l) in
      let why : eqb y 0 ≡ false = ne_eqb y 0 (λ z. reason_not_0 _ s (sym e ∙ z)) in
      let none_left : pick (eqb y 0) (n - (0 + (u - t))) 0 ≡ 0 = ap (λ (x : Bool). pick x (n - (0 + (u - t))) 0) why in
      record {
        state = refl;
        by = omega (arith, (on_stop w [] t a).0);
        far = (on_stop w [] t a).1;
        fewer = omega (arith, none_left);
        rest = ap (λ (x : ℕ). on_till w [] u x) none_left ∙ sym (on_till_stuck w [] u (n - a) s) ∙ cut;
      }
  came_so y false l e =
      let far : u ≡ t + a = omega (arith, (on_stop w [] t a).1, ltb-false u (t + a) l) in
      let left : pick (eqb y 0) (n - (0 + (u - t))) 0 ≡ n - a =
      ap (λ (x : ℕ). pick (eqb x 0) (n - (0 + (u - t))) 0) e ∙ ap (λ (x : ℕ). n - x) (by_a u t a far) in
      record {
        state = refl;
        by = omega (arith, (on_stop w [] t a).0);
        far = (on_stop w [] t a).1;
        fewer = omega (arith, left);
        rest = ap (λ (x : ℕ). on_till w [] u x) left ∙ cut;
      }
    where
      by_a : (x y z : ℕ) → x ≡ y + z → 0 + (x - y) ≡ z
      by_a x y z h = omega (arith, h)

  pub strode : Strode w t a n (going a w.program w.ins [] (at_time w t) 0)
  strode =
      subst (Strode w t a n) (sym (going_till w [] t a 0 ∙ plainly))
      (came_so (pick (ltb u (t + a)) (status_number (at_time w (suc u)).status) 0) (ltb u (t + a)) refl refl)
    where
      plainly : came_at w [] t a 0 u ≡ came_to (at_time w u) (0 + (u - t)) false (pick (ltb u (t + a)) (status_number (at_time w (suc u)).status) 0)
      plainly = ap (λ (b : Bool). came_to (at_time w u) (0 + (u - t)) b (pick b 0 (pick (ltb u (t + a)) (status_number (at_time w (suc u)).status) 0))) (never_stopped w t u)

-- a stride is at least one step, no more than are left, and passes no multiple of the spacing
pub stride_long : (t n : ℕ) → (n ≡ 0 → ⊥) → (1 ≤ stride t n) × (stride t n ≤ n) × (stride t n ≤ spacing - t % spacing)
unfolding stride
stride_long t n ne = (omega (arith, ne), omega arith, omega arith)
