-- Why an instruction is not done, or that nothing is in its way. Assumes nothing.
use Rattle.std.proofs.Common.{◌≡◌, ℕ, ◌+◌, ◌-◌, ◌<◌, ◌≤◌, List, [], ◌∷◌, length, get_or, Some, Option, Ok, Err, Result, sym, refl, ap, ◌∙◌, arith, drop-cons}
use Rattle.std.specs.Result.{result_err, MatchResult}
use Rattle.std.proofs.lemmas.Bool.{lt-ltb, le-leb}
use Rattle.command.specs.Machine.{State as Model, reckon, read, write, call, return, take_in, reckoned, reckon_done, taken_in, does}
use Rattle.command.specs.Plain.{status_number}
use Rattle.command.specs.declared.code.Instr.{Instr as Code}
use Rattle.command.specs.declared.code.Instr.TheVariants.{Load, Copied, Reckon, Read, Write, Jump, JumpIf, Call, Return, In, Out, Halt}
use Rattle.command.specs.declared.code.Op.{Op}
use Rattle.command.specs.declared.code.Reg.{Reg}
use Rattle.command.specs.Codes.{code}
use Rattle.target.specs.declared.answers.Why.{Why}
use Rattle.target.specs.Whys.{status_of, why_number}
use Rattle.processor.specs.declared.state.State.{State}
use Rattle.processor.specs.Like.{Base, Like, Stays}

module _ (b : Base) (m : State) (s : Model) where
  pub because : (y : Why) (t : Model) → Stays b m (status_of y) s t → why_number (Some y) ≡ status_number t.status
  because y t h = sym (ap status_number h.why)

-- where a check goes wrong, that is why; where it goes well, nothing is in the way
pub because_err : {T : Type 0} {o : Option Why} (r : Result T Why) {P : T → Type 0} {Q : Type 0} (y : Why) (s : Model) (ins : List ℕ) (i j : Code) → o ≡ result_err r → i ≡ j
    → MatchResult r P (λ z. (z ≡ y) × Q) → ((x : T) → P x → 0 ≡ status_number (does s ins (code j)).status) → (Q → why_number (Some y) ≡ status_number (does s ins (code j)).status)
    → why_number o ≡ status_number (does s ins (code i)).status
because_err r y s ins i j e k h f g = ap why_number e ∙ by_result r y h f g ∙ ap (λ z. status_number (does s ins (code z)).status) (sym k)
  where
    by_result : {T : Type 0} (r : Result T Why) {P : T → Type 0} {Q : Type 0} (y : Why) {n : ℕ} → MatchResult r P (λ z. (z ≡ y) × Q) → ((x : T) → P x → 0 ≡ n)
        → (Q → why_number (Some y) ≡ n) → why_number (result_err r) ≡ n
    by_result (Ok x) y h f g = f x h
    by_result (Err z) y h f g = ap (λ z. why_number (Some z)) h.0 ∙ g h.1

module _ (b : Base) (m : State) (s : Model) (l : Like b m s) where
  pub reckoning : (ins : List ℕ) (o k j v : ℕ) → v ∷ [] ≡ reckoned o (get_or m.regs k 0) (get_or m.regs j 0) → 0 ≡ status_number (does s ins (reckon o k j)).status
  unfolding does reckon_done status_number
  reckoning ins o k j v e = simp (l.registers, sym e, l.runs)

  pub reading : (ins : List ℕ) (k j n a : ℕ) → a ≡ get_or m.regs j 0 + n → a < 65536 → 0 ≡ status_number (does s ins (read k j n)).status
  unfolding does status_number
  reading ins k j n a q h = simp (l.registers, sym q, lt-ltb _ _ h, l.runs)

  pub writing : (ins : List ℕ) (k j n a : ℕ) → a ≡ get_or m.regs j 0 + n → a < 65536 → 0 ≡ status_number (does s ins (write k j n)).status
  unfolding does status_number
  writing ins k j n a q h = simp (l.registers, sym q, lt-ltb _ _ h, l.runs)

  pub calling : (ins : List ℕ) (k a : ℕ) → a + 1 ≡ get_or m.regs 15 0 → a < 65536 → 0 ≡ status_number (does s ins (call k)).status
  unfolding does status_number
  calling ins k a q h =
      let low : 1 ≤ get_or m.regs 15 0 = omega arith in
      let high : get_or m.regs 15 0 - 1 < 65536 = omega arith in
      simp (l.registers, le-leb _ _ low, lt-ltb _ _ high, l.runs)

  pub returning : (ins : List ℕ) (a : ℕ) → a ≡ get_or m.regs 15 0 → a < 65536 → 0 ≡ status_number (does s ins return).status
  unfolding does status_number
  returning ins a q h = simp (l.registers, sym q, lt-ltb _ _ h, l.runs)

  pub taking : (ins : List ℕ) (k : ℕ) → m.taken < length ins → 0 ≡ status_number (does s ins (take_in k)).status
  unfolding does taken_in status_number
  taking ins k h = simp (l.took, drop-cons ins m.taken 0 h, l.runs)

  -- all others are always done
  pub the_rest : (ins : List ℕ) (i : Code)
      → ((o : Op) (k j : Reg) → i ≡ Reckon o k j → ⊥) → ((k j : Reg) (n : ℕ) → i ≡ Read k j n → ⊥) → ((k j : Reg) (n : ℕ) → i ≡ Write k j n → ⊥)
      → ((n : ℕ) → i ≡ Call n → ⊥) → (i ≡ Return → ⊥) → ((k : Reg) → i ≡ In k → ⊥) → (i ≡ Halt → ⊥)
      → 0 ≡ status_number (does s ins (code i)).status
  unfolding does status_number
  the_rest ins (Load k n) x₁ x₂ x₃ x₄ x₅ x₆ x₇ = simp l.runs
  the_rest ins (Copied k j) x₁ x₂ x₃ x₄ x₅ x₆ x₇ = simp l.runs
  the_rest ins (Reckon o k j) x₁ x₂ x₃ x₄ x₅ x₆ x₇ = absurd (x₁ o k j refl)
  the_rest ins (Read k j n) x₁ x₂ x₃ x₄ x₅ x₆ x₇ = absurd (x₂ k j n refl)
  the_rest ins (Write k j n) x₁ x₂ x₃ x₄ x₅ x₆ x₇ = absurd (x₃ k j n refl)
  the_rest ins (Jump n) x₁ x₂ x₃ x₄ x₅ x₆ x₇ = simp l.runs
  the_rest ins (JumpIf o k j n) x₁ x₂ x₃ x₄ x₅ x₆ x₇ = simp l.runs
  the_rest ins (Call n) x₁ x₂ x₃ x₄ x₅ x₆ x₇ = absurd (x₄ n refl)
  the_rest ins Return x₁ x₂ x₃ x₄ x₅ x₆ x₇ = absurd (x₅ refl)
  the_rest ins (In k) x₁ x₂ x₃ x₄ x₅ x₆ x₇ = absurd (x₆ k refl)
  the_rest ins (Out k) x₁ x₂ x₃ x₄ x₅ x₆ x₇ = simp l.runs
  the_rest ins Halt x₁ x₂ x₃ x₄ x₅ x₆ x₇ = absurd (x₇ refl)
