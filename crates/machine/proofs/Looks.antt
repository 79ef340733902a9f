-- The commands that look and show, and change nothing: where, registers, words and outs. Assumes nothing.
use Rattle.std.proofs.Common.{◌≡◌, ℕ, zero, suc, ◌-◌, ◌%◌, ◌≤◌, true, ltb, leb, List, [], ◌∷◌, ◌++◌, length, get_or, take, drop, sym, refl, ap, ◌∙◌, arith, lit≤}
use Rattle.std.proofs.lemmas.List.{length-take}
use Rattle.std.proofs.lemmas.Bool.{and_parts, ltb-true, ltb-false, leb-true, le-leb}
use Rattle.command.specs.Machine.{eight, flat, smaller, State, state_at}
use Rattle.command.specs.Plain.{where_now, registers, words_from, outs_from, fits, Plain, turn, yes_with, at_time, may_step, status_number}
use Rattle.command.proofs.Picks.{pick_both, pick_true}
use Rattle.command.proofs.Registers.{sixteen}
use Rattle.command.proofs.Shown.{shown_cut}
use Rattle.target.specs.Run.{saw, looks_where, looks_regs, looks_words, looks_outs, shows, Slot, Target, world, ran, words_of}
use Rattle.target.proofs.Looked.{shown_looked}
use Rattle.machine.specs.Engine.{puts, written, plan, planned, begin, on_saw, unexpected, limit, phase, ending, placing, telling}
use Rattle.machine.specs.Plans.{Plans, Agrees, phases}
use Rattle.machine.proofs.Memory.{cell_put, Alike, alike_then, alike_written}
use Rattle.machine.proofs.Runs.{Ends, ends_within, acts}
use Rattle.machine.proofs.Kept.{target_of}
use Rattle.machine.proofs.Stands.{lasting, Lasts, Stands, Comes, Obeyed, lasts_alike, fair_less, in_phase, ended}

-- what is shown at last, with nothing changed
quiet : {left : ℕ} {w : Plain} {m m₁ : List ℕ} (sl : List Slot) (s s₁ : List ℕ) → Stands (suc left) w sl m → Alike lasting m m₁ → s₁ ≡ s →
    Comes left 0 (yes_with (s ∷ []) w) (ran (world (target_of w sl) m₁) (s₁ ∷ []) 0 0)
quiet {m₁ = m₁} sl s s₁ h a e =
    record {
      ends = refl;
      showed = ap (λ (x : List ℕ). x ∷ []) e;
      within = lit≤ tt;
      slots = sl;
      memory = m₁;
      here = refl;
      stands = record { fair = fair_less h.fair; lasts = lasts_alike h.lasts a };
    }

module _ (plans : Plans) (agrees : Agrees plans) (left : ℕ) (w : Plain) (sl : List Slot) (m : List ℕ) where
  -- looking under a phase of its own, and showing what comes of what was seen
  looked : (xs s s₁ : List ℕ) (p : ℕ) → Stands (suc left) w sl m → p % limit ≡ p → ltb p phases ≡ true →
      ((m₁ : List ℕ) → Lasts w sl m₁ → on_saw p m₁ xs ≡ plan (puts phase ending ∷ []) (shows s)) → s ≡ s₁ →
      Ends plans 2 (Comes left 0 (yes_with (s₁ ∷ []) w)) (world (target_of w sl) (written (puts phase p ∷ []) m)) (saw xs) [] 0
  unfolding planned
  looked xs s s₁ p h small ours q e =
      let m₁ : List ℕ = written (puts phase p ∷ []) m in
      let a₁ : Alike lasting m m₁ = alike_written (puts phase p ∷ []) m refl in
      let l₁ : Lasts w sl m₁ = lasts_alike h.lasts a₁ in
      let m₂ : List ℕ = written (puts phase ending ∷ []) m₁ in
      let a₂ : Alike lasting m₁ m₂ = alike_written (puts phase ending ∷ []) m₁ refl in
      let l₂ : Lasts w sl m₂ = lasts_alike l₁ a₂ in
      let p_is = cell_put (puts phase p ∷ []) m phase h.lasts.sized refl ∙ small in
      acts {ws = puts phase ending ∷ []} {a = shows s} l₁.sized
      (in_phase plans m₁ (saw xs) p agrees ours refl p_is ∙ ap (λ (x : ℕ). on_saw x m₁ xs) p_is ∙ q m₁ l₁)
      (ended agrees l₂.sized (cell_put (puts phase ending ∷ []) m₁ phase l₁.sized refl)
      (quiet sl s₁ s h (alike_then a₁ (alike_then a₂ (alike_written _ m₂ refl))) e))

-- as many numbers as can be told at once are shown
told_row : (xs m : List ℕ) → length xs ≤ 4096 → on_saw telling m xs ≡ plan (puts phase ending ∷ []) (shows (flat eight xs))
unfolding on_saw
told_row xs m h = pick_true (leb (length xs) 4096) (plan (puts phase ending ∷ []) (shows (flat eight xs))) unexpected (le-leb (length xs) 4096 h)

words_count : (t : Target) (a n : ℕ) → length (words_of t a n) ≡ n
unfolding words_of
words_count t a zero = refl
words_count t a (suc n) = ap suc (words_count t (suc a) n)

pub where_obeyed : Obeyed where_now
unfolding begin turn may_step on_saw state_at
where_obeyed plans g left w sl m text h f q =
    let s : State = at_time w w.now in
    let xs : List ℕ = s.at ∷ status_number (at_time w (suc w.now)).status ∷ [] in
    ends_within {b = 3} (lit≤ tt)
    (acts {ws = puts phase placing ∷ []} {a = looks_where} h.lasts.sized q
    (looked plans g left w sl m xs (eight w.now ++ eight (get_or xs 0 0) ++ eight (get_or xs 1 0)) _ placing h refl refl
    (λ m₁ l. ap (λ (x : ℕ). plan (puts phase ending ∷ []) (shows (eight x ++ eight (get_or xs 0 0) ++ eight (get_or xs 1 0)))) l.time_is) refl))

pub registers_obeyed : Obeyed registers
unfolding begin turn may_step on_saw
registers_obeyed plans g left w sl m text h f q =
    ends_within {b = 3} (lit≤ tt)
    (acts {ws = puts phase telling ∷ []} {a = looks_regs} h.lasts.sized q
    (looked plans g left w sl m (at_time w w.now).regs _ _ telling h refl refl
    (λ m₁ l. told_row (at_time w w.now).regs m₁ (omega (arith, sixteen w.program w.ins w.now))) refl))

pub outs_obeyed : (a n : ℕ) → Obeyed (outs_from a n)
unfolding begin turn may_step on_saw fits
outs_obeyed a n plans g left w sl m text h f q =
    ends_within {b = 3} (lit≤ tt)
    (acts {ws = puts phase telling ∷ []} {a = looks_outs a n} h.lasts.sized q (
      (and_parts _ _ f).1,
      looked plans g left w sl m (take n (drop a (at_time w w.now).out)) _ _ telling h refl refl
          (λ m₁ l. told_row (take n (drop a (at_time w w.now).out)) m₁ (omega (arith, length-take n (drop a (at_time w w.now).out), leb-true n 4096 (and_parts _ _ f).1))) refl,
    ))

smaller_least : (a b : ℕ) → (smaller a b ≤ a) × (smaller a b ≤ b)
smaller_least a b = pick_both (λ (x : ℕ). (x ≤ a) × (x ≤ b)) (ltb a b) a b (λ e. (omega arith, omega (arith, ltb-true a b e))) (λ e. (omega (arith, ltb-false a b e), omega arith))

pub words_obeyed : (a n : ℕ) → Obeyed (words_from a n)
unfolding begin turn may_step on_saw fits
words_obeyed a n plans g left w sl m text h f q =
    let k : ℕ = smaller n (65536 - a) in
    let l = smaller_least n (65536 - a) in
    let t = target_of w sl in
    ends_within {b = 3} (lit≤ tt)
    (acts {ws = puts phase telling ∷ []} {a = looks_words a k} h.lasts.sized q (
      le-leb k 4096 (omega (arith, l.0, leb-true n 4096 (and_parts _ _ f).1)),
      looked plans g left w sl m (words_of t a k) _ _ telling h refl refl
          (λ m₁ q. told_row (words_of t a k) m₁ (omega (arith, words_count t a k, l.0, leb-true n 4096 (and_parts _ _ f).1)))
          (sym (shown_cut t.state.words a n ∙ shown_looked t a k (omega (arith, l.1, ltb-true a 65536 (and_parts _ _ f).0)))),
    ))
