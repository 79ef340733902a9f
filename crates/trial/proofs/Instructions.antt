-- What each instruction makes of a state, by its moment. Assumes nothing.
use Rattle.std.proofs.Common.{◌≡◌, ℕ, zero, suc, ◌+◌, ◌-◌, ◌<◌, ◌≤◌, Bool, eqb, ◌⊎◌, List, [], ◌∷◌, ◌++◌, length, get_or, set, Some, None, sym, refl, ap, ◌∙◌, inl, inr, append-nil, add-one, arith, drop-cons}
use Rattle.std.proofs.lemmas.List.{drop_all}
use Rattle.std.proofs.lemmas.Bool.{lt-ltb, le-ltb, le-leb}
use Rattle.command.specs.Machine.{pick, word_at, State as Model, waiting, wrong, copy, reckon, read, write, jump_if, call, return, take_in, put_out, with_reg, reckoned, reckon_done, taken_in, compared, does, one, step, instr_at, is_running, gone_to}
use Rattle.command.specs.declared.code.Instr.{Instr as Code}
use Rattle.command.specs.Codes.{code, codes}
use Rattle.trial.specs.declared.moments.Moment.{Moment}
use Rattle.trial.specs.Moments.{At, Words, Came, moved_to, set_reg}
use Rattle.trial.proofs.Written.{put_set, put_words}

-- the instruction at a place
instr_none : (is : List Code) (k : ℕ) → length is ≤ k → instr_at (codes is) k ≡ []
instr_none [] zero h = refl
instr_none [] (suc k) h = refl
instr_none (i ∷ is) zero h = absurd (omega arith)
instr_none (i ∷ is) (suc k) h = instr_none is k (omega arith)

instr_there : (is : List Code) (k : ℕ) (d : Code) → k < length is → instr_at (codes is) k ≡ code (get_or is k d) ∷ []
instr_there [] k d h = absurd (omega arith)
instr_there (i ∷ is) zero d h = refl
instr_there (i ∷ is) (suc k) d h = instr_there is k d (omega arith)

module _ (m : Moment) (s : Model) (l : At m s) where
  next_place : suc s.at ≡ m.at + 1
  next_place = ap suc l.place ∙ sym (add-one m.at)

  nothing_out : s.out ≡ s.out ++ []
  nothing_out = sym (append-nil s.out)

  pub no_instr : (is : List Code) (ins : List ℕ) → length is ≤ m.at → (step (codes is) ins s).status ≡ wrong 1
  unfolding is_running one
  no_instr is ins h = simp (l.runs, l.place, instr_none is m.at h)

  pub steps_on : (is : List Code) (ins : List ℕ) (d : Code) → m.at < length is → step (codes is) ins s ≡ does s ins (code (get_or is m.at d))
  unfolding is_running one
  steps_on is ins d h = simp (l.runs, l.place, instr_there is m.at d h)

  pub goes_to : (n : ℕ) → Came (moved_to m n) s (gone_to s n)
  goes_to n =
      record {
        now = record { place = refl; registers = l.registers; took = l.took; runs = l.runs };
        words = λ a. refl;
        was = tt;
        out = nothing_out;
      }

  pub with_reg_on : (k v : ℕ) → Came (set_reg m k v) s (with_reg s k v)
  with_reg_on k v =
      record {
        now = record { place = next_place; registers = put_set s.regs k v ∙ ap (λ r. set r k v) l.registers; took = l.took; runs = l.runs };
        words = λ a. refl;
        was = tt;
        out = nothing_out;
      }

  pub copies_on : (ins : List ℕ) (k j : ℕ) → Came (set_reg m k (get_or m.regs j 0)) s (does s ins (copy k j))
  unfolding does
  copies_on ins k j = simp l.registers (simp l.registers at (with_reg_on k (get_or m.regs j 0)))

  pub reckons_on : (ins : List ℕ) (o k j v : ℕ) → v ∷ [] ≡ reckoned o (get_or m.regs k 0) (get_or m.regs j 0)
      → Came (set_reg m k v) s (does s ins (reckon o k j))
  unfolding does reckon_done
  reckons_on ins o k j v e = simp (l.registers, sym e) (simp l.registers at (with_reg_on k v))

  pub by_zero : (ins : List ℕ) (o k j : ℕ) → [] ≡ reckoned o (get_or m.regs k 0) (get_or m.regs j 0) → (does s ins (reckon o k j)).status ≡ wrong 3
  unfolding does reckon_done
  by_zero ins o k j e = simp (l.registers, sym e)

  pub no_read : (ins : List ℕ) (k j n : ℕ) → 65536 ≤ get_or m.regs j 0 + n → (does s ins (read k j n)).status ≡ wrong 2
  unfolding does
  no_read ins k j n h = simp (l.registers, le-ltb _ _ h)

  pub no_write : (ins : List ℕ) (k j n : ℕ) → 65536 ≤ get_or m.regs j 0 + n → (does s ins (write k j n)).status ≡ wrong 2
  unfolding does
  no_write ins k j n h = simp (l.registers, le-ltb _ _ h)

  pub jumps : (ins : List ℕ) (c k j n p : ℕ) (t : Bool) → t ≡ compared c (get_or m.regs k 0) (get_or m.regs j 0)
      → p ≡ pick t n (m.at + 1) → Came (moved_to m p) s (does s ins (jump_if c k j n))
  unfolding does
  jumps ins c k j n p t e f =
      record {
        now = record { place = simp (l.registers, sym e, next_place) (sym f); registers = l.registers; took = l.took; runs = l.runs };
        words = λ a. refl;
        was = tt;
        out = nothing_out;
      }

  pub no_call : (ins : List ℕ) (k : ℕ) → (get_or m.regs 15 0 ≡ 0) ⊎ (65536 < get_or m.regs 15 0) → (does s ins (call k)).status ≡ wrong 2
  unfolding does
  no_call ins k (inl h) = simp (l.registers, h)
  no_call ins k (inr h) =
      let low : 1 ≤ get_or m.regs 15 0 = omega arith in
      let high : 65536 ≤ get_or m.regs 15 0 - 1 = omega arith in
      simp (l.registers, le-leb _ _ low, le-ltb _ _ high)

  pub no_return : (ins : List ℕ) → 65536 ≤ get_or m.regs 15 0 → (does s ins return).status ≡ wrong 2
  unfolding does
  no_return ins h = simp (l.registers, le-ltb _ _ h)

  pub waits : (ins : List ℕ) (k : ℕ) → length ins ≤ m.taken → (does s ins (take_in k)).status ≡ waiting
  unfolding does taken_in
  waits ins k h = simp (l.took, drop_all _ _ h)

  pub takes_on : (ins : List ℕ) (k : ℕ) → m.taken < length ins
      → Came (record { at = m.at + 1; regs = set m.regs k (get_or ins m.taken 0); taken = m.taken + 1; written = None; out = None }) s (does s ins (take_in k))
  unfolding does taken_in
  takes_on ins k h =
      simp (l.took, drop-cons ins m.taken 0 h)
      (record {
        now = record {
          place = next_place;
          registers = put_set s.regs k _ ∙ ap (λ r. set r k (get_or ins m.taken 0)) l.registers;
          took = sym (add-one m.taken);
          runs = l.runs;
        };
        words = λ a. refl;
        was = tt;
        out = nothing_out;
      })

  pub puts_on : (ins : List ℕ) (k : ℕ)
      → Came (record { at = m.at + 1; regs = m.regs; taken = m.taken; written = None; out = Some (get_or m.regs k 0) }) s (does s ins (put_out k))
  unfolding does
  puts_on ins k =
      record {
        now = record { place = next_place; registers = l.registers; took = l.took; runs = l.runs };
        words = λ a. refl;
        was = tt;
        out = simp l.registers;
      }

  -- with the words
  module _ (ws : List ℕ) (held : Words ws s) where
    pub reads_on : (ins : List ℕ) (k j n v : ℕ) → get_or m.regs j 0 + n < 65536
        → v ≡ get_or ws (get_or m.regs j 0 + n) 0 → Came (set_reg m k v) s (does s ins (read k j n))
    unfolding does
    reads_on ins k j n v h e = simp (l.registers, lt-ltb _ _ h, held, sym e) (simp l.registers at (with_reg_on k v))

    pub writes_on : (ins : List ℕ) (k j n b : ℕ) → get_or m.regs j 0 + n < 65536 → b ≡ get_or ws (get_or m.regs j 0 + n) 0
        → Came (record { at = m.at + 1; regs = m.regs; taken = m.taken; written = Some (record { place = get_or m.regs j 0 + n; before = b; after = get_or m.regs k 0 }); out = None }) s (does s ins (write k j n))
    unfolding does
    writes_on ins k j n b h e =
        simp (l.registers, lt-ltb _ _ h)
        (record {
          now = record { place = next_place; registers = refl; took = l.took; runs = l.runs };
          words = λ a. put_words s.words _ _ a;
          was = e ∙ sym (held _);
          out = nothing_out;
        })

    pub calls_on : (ins : List ℕ) (k b : ℕ) → 1 ≤ get_or m.regs 15 0 → get_or m.regs 15 0 ≤ 65536 → b ≡ get_or ws (get_or m.regs 15 0 - 1) 0
        → Came (record { at = k; regs = set m.regs 15 (get_or m.regs 15 0 - 1); taken = m.taken; written = Some (record { place = get_or m.regs 15 0 - 1; before = b; after = m.at + 1 }); out = None }) s (does s ins (call k))
    unfolding does
    calls_on ins k b low high e =
        let h : get_or m.regs 15 0 - 1 < 65536 = omega arith in
        simp (l.registers, le-leb _ _ low, lt-ltb _ _ h)
        (record {
          now = record { place = refl; registers = put_set m.regs 15 _; took = l.took; runs = l.runs };
          words = λ a. put_words s.words _ _ a ∙ ap (λ z. pick (eqb (get_or m.regs 15 0 - 1) a) z (word_at s.words a)) next_place;
          was = e ∙ sym (held _);
          out = nothing_out;
        })

    pub returns_on : (ins : List ℕ) (p : ℕ) → get_or m.regs 15 0 < 65536 → p ≡ get_or ws (get_or m.regs 15 0) 0
        → Came (record { at = p; regs = set m.regs 15 (get_or m.regs 15 0 + 1); taken = m.taken; written = None; out = None }) s (does s ins return)
    unfolding does
    returns_on ins p h e =
        simp (l.registers, lt-ltb _ _ h)
        (record {
          now = record {
            place = held _ ∙ sym e;
            registers = put_set m.regs 15 _ ∙ ap (λ z. set m.regs 15 z) (sym (add-one _));
            took = l.took;
            runs = l.runs;
          };
          words = λ a. refl;
          was = tt;
          out = nothing_out;
        })
