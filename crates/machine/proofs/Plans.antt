-- What the code does, as the plans of the definition say it.
use Rattle.std.proofs.Common.{◌≡◌, ℕ, ◌/◌, ◌%◌, ◌<◌, Bool, true, List, [], ◌∷◌, length, set, Some, sym, refl, ap, ◌∙◌, subst, arith}
use Rattle.checkpoints.specs.Arrivals.{arrival_slot, levels_reached}
use Rattle.command.specs.Machine.{flat, Instr}
use Rattle.command.specs.Plain.{load, instr_spelled}
use Rattle.target.specs.Run.{keeps}
use Rattle.machine.specs.Engine.{Plan, Write, puts, plan, written, limit, gaps_shut, set_off, kept_or, come_to, begin}
use Rattle.machine.specs.Entry.{on_row, Carries}
use Rattle.machine.specs.declared.acts.Told.{Told}
use Rattle.machine.specs.declared.acts.Told.TheVariants.{Starts, Keeps}

-- the same plan under another name
pub carries_at : {p q : Plan} (m : List ℕ) (r : Told) (out m₁ out₁ : List ℕ) → p ≡ q → Carries q m r out m₁ out₁ → Carries p m r out m₁ out₁
carries_at m r out m₁ out₁ e h = subst (λ x. Carries x m r out m₁ out₁) (sym e) h

-- a number that 64 bits hold
whole : (n : ℕ) → n < limit → n % limit ≡ n
whole n h = omega arith

-- a time that was reached is kept: what is written by then, whatever the order
module _ (m out m₁ : List ℕ) (here left : ℕ) where
  abbrev kept_writes : List Write
  kept_writes = puts 0 4 ∷ puts 4 1 ∷ puts 1 here ∷ puts 3 left ∷ gaps_shut (levels_reached (here / 4096))

  pub comes_kept : (b : Bool) (v n k : ℕ) → b ≡ true → here < limit → left < limit → v ≡ 4 → n ≡ levels_reached (here / 4096) → Some k ≡ arrival_slot (here / 4096) 0 →
      m₁ ≡ written (gaps_shut n) (set (set (set (set m 1 here) 3 left) 0 v) 4 1) → Carries (come_to b here left) m (Keeps k) out m₁ out
  unfolding come_to written kept_or
  comes_kept b v n k e sh sl ev en s w =
      carries_at {q = plan kept_writes (keeps k)} m (Keeps k) out m₁ out
      (ap (λ x. come_to x here left) e ∙ ap (λ x. kept_or x kept_writes (set_off (puts 1 here ∷ puts 3 left ∷ []) here left)) (sym s))
      (w ∙ rw (en, ev) (ap (written (gaps_shut (levels_reached (here / 4096)))) (swap_all m here left ∙ whole_too)), (refl, refl))
    where
      whole_too : set (set (set (set m 0 4) 4 1) 1 here) 3 left ≡ set (set (set (set m 0 4) 4 1) 1 (here % limit)) 3 (left % limit)
      whole_too = rw (whole here sh, whole left sl) refl

      swap_all : (m : List ℕ) (a b : ℕ) → set (set (set (set m 1 a) 3 b) 0 4) 4 1 ≡ set (set (set (set m 0 4) 4 1) 1 a) 3 b
      swap_all [] a b = refl
      swap_all (p ∷ []) a b = refl
      swap_all (p ∷ t ∷ []) a b = refl
      swap_all (p ∷ t ∷ f ∷ []) a b = refl
      swap_all (p ∷ t ∷ f ∷ l ∷ m) a b = refl

-- a program, and numbers that come in
module _ (m out out₁ : List ℕ) where
  pub loads : (is : List Instr) (v n : ℕ) → v ≡ 2 → n ≡ length is → out₁ ≡ on_row (flat instr_spelled is) out →
      Carries (begin m (load is)) m (Starts n) out (set (set (set (set m 0 v) 4 0) 1 0) 2 0) out₁
  unfolding begin written
  loads is v n e l o = (ap (λ x. set (set (set (set m 0 x) 4 0) 1 0) 2 0) e, (ap Starts l, o))
