-- What each instruction makes of a state that the processor holds. Assumes nothing.
use Rattle.std.proofs.Common.{◌≡◌, ℕ, zero, suc, ◌+◌, ◌-◌, ◌<◌, ◌≤◌, Bool, ◌⊎◌, List, [], ◌∷◌, ◌++◌, length, get_or, set, Some, None, vec_items, sym, refl, ap, ◌∙◌, inl, inr, add-one, arith, drop-cons}
use Rattle.std.proofs.lemmas.List.{drop_all, length_push}
use Rattle.std.proofs.lemmas.Bool.{lt-ltb, le-ltb, le-leb}
use Rattle.command.specs.Machine.{pick, State as Model, Status, waiting, wrong, reckon, read, write, jump_if, call, return, take_in, put_out, with_reg, with_status, reckoned, reckon_done, taken_in, compared, does, one, step, instr_at, is_running, gone_to}
use Rattle.command.specs.declared.code.Instr.{Instr as Code}
use Rattle.command.specs.Codes.{code, codes}
use Rattle.processor.specs.declared.state.State.{State}
use Rattle.processor.specs.declared.words.Words.{Words}
use Rattle.processor.specs.declared.writing.Overwritten.{Overwritten}
use Rattle.processor.specs.Like.{Base, Like, Ready, OnTo, Stays, held, laid}
use Rattle.processor.proofs.Writes.{put_set, put_like, put_was}

-- there are 65,536 words
pub word_there : (w : Words) (a : ℕ) → a < 65536 → a < length (vec_items w.items)
word_there w a h = omega (arith, w.full, w.items.ok.0)

-- the instruction at a place
instr_none : (is : List Code) (k : ℕ) → length is ≤ k → instr_at (codes is) k ≡ []
instr_none [] zero h = refl
instr_none [] (suc k) h = refl
instr_none (i ∷ is) zero h = absurd (omega arith)
instr_none (i ∷ is) (suc k) h = instr_none is k (omega arith)

instr_there : (is : List Code) (k : ℕ) (d : Code) → k < length is → instr_at (codes is) k ≡ code (get_or is k d) ∷ []
instr_there [] k d h = absurd (omega arith)
instr_there (i ∷ is) zero d h = refl
instr_there (i ∷ is) (suc k) d h = instr_there is k d (omega arith)

module _ (b : Base) (m : State) (s : Model) (l : Like b m s) where
  pub stays_with : (t : Model) (y : Status) → t ≡ with_status s y → Stays b m y s t
  stays_with t y e = record { like = l; why = ap (λ z. z.status) e }

  pub no_instr : (is : List Code) (ins : List ℕ) → length is ≤ m.at → Stays b m (wrong 1) s (step (codes is) ins s)
  unfolding is_running one
  no_instr is ins h = stays_with (step (codes is) ins s) (wrong 1) (simp (l.runs, l.place, instr_none is m.at h))

  pub steps_on : (is : List Code) (ins : List ℕ) (d : Code) → m.at < length is → step (codes is) ins s ≡ does s ins (code (get_or is m.at d))
  unfolding is_running one
  steps_on is ins d h = simp (l.runs, l.place, instr_there is m.at d h)

  pub goes_to : (n : ℕ)
      → OnTo b (record { at = n; regs = m.regs; words = m.words; taken = m.taken; put = m.put; log = m.log }) None s (gone_to s n)
  goes_to n =
      record {
        like = record { place = refl; registers = l.registers; words = l.words; took = l.took; put = l.put; log = l.log; pages = l.pages; runs = l.runs };
        was = λ a. refl;
      }

  pub by_zero : (ins : List ℕ) (o k j : ℕ) → [] ≡ reckoned o (get_or m.regs k 0) (get_or m.regs j 0) → Stays b m (wrong 3) s (does s ins (reckon o k j))
  unfolding does reckon_done
  by_zero ins o k j e = stays_with (does s ins (reckon o k j)) (wrong 3) (simp (l.registers, sym e))

  pub no_read : (ins : List ℕ) (k j n : ℕ) → 65536 ≤ get_or m.regs j 0 + n → Stays b m (wrong 2) s (does s ins (read k j n))
  unfolding does
  no_read ins k j n h = stays_with (does s ins (read k j n)) (wrong 2) (simp (l.registers, le-ltb _ _ h))

  pub no_write : (ins : List ℕ) (k j n : ℕ) → 65536 ≤ get_or m.regs j 0 + n → Stays b m (wrong 2) s (does s ins (write k j n))
  unfolding does
  no_write ins k j n h = stays_with (does s ins (write k j n)) (wrong 2) (simp (l.registers, le-ltb _ _ h))

  pub no_call : (ins : List ℕ) (k : ℕ) → (get_or m.regs 15 0 ≡ 0) ⊎ (65536 < get_or m.regs 15 0) → Stays b m (wrong 2) s (does s ins (call k))
  unfolding does
  no_call ins k (inl h) = stays_with (does s ins (call k)) (wrong 2) (simp (l.registers, h))
  no_call ins k (inr h) =
      let low : 1 ≤ get_or m.regs 15 0 = omega arith in
      let high : 65536 ≤ get_or m.regs 15 0 - 1 = omega arith in
      stays_with (does s ins (call k)) (wrong 2) (simp (l.registers, le-leb _ _ low, le-ltb _ _ high))

  pub no_return : (ins : List ℕ) → 65536 ≤ get_or m.regs 15 0 → Stays b m (wrong 2) s (does s ins return)
  unfolding does
  no_return ins h = stays_with (does s ins return) (wrong 2) (simp (l.registers, le-ltb _ _ h))

  pub returns_on : (ins : List ℕ) (p at : ℕ) → p < 65536 → p ≡ get_or m.regs 15 0 → at ≡ get_or (held m) p 0
      → OnTo b (record { at = at; regs = set m.regs 15 (p + 1); words = m.words; taken = m.taken; put = m.put; log = m.log }) None s (does s ins return)
  unfolding does
  returns_on ins p at h q e =
      simp (l.registers, sym q, lt-ltb _ _ h)
      (record {
        like = record {
          place = l.words _ ∙ sym e;
          registers = put_set m.regs 15 _ ∙ ap (λ z. set m.regs 15 z) (sym (add-one _));
          words = l.words;
          took = l.took;
          put = l.put;
          log = l.log;
          pages = l.pages;
          runs = l.runs;
        };
        was = λ a. refl;
      })

  pub waits : (ins : List ℕ) (k : ℕ) → length ins ≤ m.taken → Stays b m waiting s (does s ins (take_in k))
  unfolding does taken_in
  waits ins k h = stays_with (does s ins (take_in k)) waiting (simp (l.took, drop_all _ _ h))

module _ (b : Base) (m : State) (next : ℕ) (s : Model) (r : Ready b m next s) where
  l : Like b m s
  l = r.like

  next_place : suc s.at ≡ next
  next_place = ap suc l.place ∙ sym (add-one m.at) ∙ sym r.follows

  pub with_reg_on : (k v : ℕ)
      → OnTo b (record { at = next; regs = set m.regs k v; words = m.words; taken = m.taken; put = m.put; log = m.log }) None s (with_reg s k v)
  with_reg_on k v =
      record {
        like = record { place = next_place; registers = put_set s.regs k v ∙ ap (λ r. set r k v) l.registers; words = l.words; took = l.took; put = l.put; log = l.log; pages = l.pages; runs = l.runs };
        was = λ a. refl;
      }

  pub reckons_on : (m₁ : State) (ins : List ℕ) (o k j v : ℕ) → v ∷ [] ≡ reckoned o (get_or m.regs k 0) (get_or m.regs j 0)
      → OnTo b m₁ None s (with_reg s k v) → OnTo b m₁ None s (does s ins (reckon o k j))
  unfolding does reckon_done
  reckons_on m₁ ins o k j v e h = simp (l.registers, sym e) (simp l.registers at h)

  pub reads_on : (m₁ : State) (ins : List ℕ) (k j n v : ℕ) → get_or m.regs j 0 + n < 65536
      → v ≡ get_or (held m) (get_or m.regs j 0 + n) 0 → OnTo b m₁ None s (with_reg s k v) → OnTo b m₁ None s (does s ins (read k j n))
  unfolding does
  reads_on m₁ ins k j n v h e o = simp (l.registers, lt-ltb _ _ h, l.words, sym e) (simp l.registers at o)

  pub writes_on : (w : Words) (ins : List ℕ) (k j n p : ℕ) (o : Overwritten) → p < 65536 → p ≡ get_or m.regs j 0 + n
      → o ≡ record { place = p; before = get_or (held m) p 0 }
      → vec_items w.items ≡ set (held m) p (get_or m.regs k 0)
      → w.pages ≡ m.words.pages
      → OnTo b (record { at = next; regs = m.regs; words = w; taken = m.taken; put = m.put; log = m.log }) (Some o) s (does s ins (write k j n))
  unfolding does
  writes_on w ins k j n p o h q e f g =
      simp (l.registers, sym q, lt-ltb _ _ h, e)
      (record {
        like = record {
          place = next_place;
          registers = refl;
          words = put_like (held m) (vec_items w.items) s.words _ _ (word_there m.words _ h) l.words f;
          took = l.took;
          put = l.put;
          log = l.log;
          pages = g ∙ l.pages;
          runs = l.runs;
        };
        was = put_was s.words _ _ _ (sym (l.words _));
      })

  pub jumps : (ins : List ℕ) (c k j n at : ℕ) (t : Bool) → t ≡ compared c (get_or m.regs k 0) (get_or m.regs j 0)
      → at ≡ pick t n next
      → OnTo b (record { at = at; regs = m.regs; words = m.words; taken = m.taken; put = m.put; log = m.log }) None s (does s ins (jump_if c k j n))
  unfolding does
  jumps ins c k j n at t e f =
      record {
        like = record {
          place = simp (l.registers, sym e, next_place) (sym f);
          registers = l.registers;
          words = l.words;
          took = l.took;
          put = l.put;
          log = l.log;
          pages = l.pages;
          runs = l.runs;
        };
        was = λ a. refl;
      }

  pub calls_on : (w : Words) (ins : List ℕ) (k p : ℕ) (o : Overwritten) → p < 65536 → p + 1 ≡ get_or m.regs 15 0
      → o ≡ record { place = p; before = get_or (held m) p 0 }
      → vec_items w.items ≡ set (held m) p next
      → w.pages ≡ m.words.pages
      → OnTo b (record { at = k; regs = set m.regs 15 p; words = w; taken = m.taken; put = m.put; log = m.log }) (Some o) s (does s ins (call k))
  unfolding does
  calls_on w ins k p o h q e f g =
      let low : 1 ≤ get_or m.regs 15 0 = omega arith in
      let d : get_or m.regs 15 0 - 1 ≡ p = omega arith in
      simp (l.registers, le-leb _ _ low, d, lt-ltb _ _ h, e)
      (record {
        like = record {
          place = refl;
          registers = put_set m.regs 15 _;
          words = put_like (held m) (vec_items w.items) s.words _ _ (word_there m.words _ h) l.words (f ∙ ap (λ z. set (held m) p z) (sym next_place));
          took = l.took;
          put = l.put;
          log = l.log;
          pages = g ∙ l.pages;
          runs = l.runs;
        };
        was = put_was s.words _ _ _ (sym (l.words _));
      })

  pub takes_on : (ins : List ℕ) (k v : ℕ) → m.taken < length ins → v ≡ get_or ins m.taken 0
      → OnTo b (record { at = next; regs = set m.regs k v; words = m.words; taken = m.taken + 1; put = m.put; log = m.log }) None s (does s ins (take_in k))
  unfolding does taken_in
  takes_on ins k v h e =
      simp (l.took, drop-cons ins m.taken 0 h, sym e)
      (record {
        like = record {
          place = next_place;
          registers = put_set s.regs k _ ∙ ap (λ z. set z k v) l.registers;
          words = l.words;
          took = sym (add-one m.taken);
          put = l.put;
          log = l.log;
          pages = l.pages;
          runs = l.runs;
        };
        was = λ a. refl;
      })

  pub puts_on : (o : _) (ins : List ℕ) (k : ℕ) → vec_items o ≡ laid (s.out ++ get_or m.regs k 0 ∷ []) b.log
      → OnTo b (record { at = next; regs = m.regs; words = m.words; taken = m.taken; put = m.put + 1; log = o }) None s (does s ins (put_out k))
  unfolding does
  puts_on o ins k e =
      record {
        like = record {
          place = next_place;
          registers = l.registers;
          words = l.words;
          took = l.took;
          put = length_push s.out _ ∙ ap (λ n. n + 1) l.put;
          log = simp l.registers e;
          pages = l.pages;
          runs = l.runs;
        };
        was = λ a. refl;
      }
