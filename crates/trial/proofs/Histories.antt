-- Every state there was, kept by its moment: gone through on and back, and one more. Assumes nothing.
use Rattle.std.proofs.Common.{◌≡◌, ℕ, zero, suc, ◌<◌, true, false, eqb, List, [], ◌∷◌, length, get_or, set, replicate, Some, None, sym, refl, ap, ◌∙◌, subst, arith, get_or-set_other, get_or-set_same}
use Rattle.std.proofs.lemmas.Bool.{eqb-true, eqb-false}
use Rattle.command.specs.Machine.{pick, each, word_at, Instr, State as Model, state_at, goes_on, is_running, so_many}
use Rattle.command.proofs.Picks.{by_test}
use Rattle.trial.specs.declared.moments.Moment.{Moment}
use Rattle.trial.specs.declared.moments.Written.{Written}
use Rattle.trial.specs.Moments.{At, Words, Came, first_moment}
use Rattle.command.specs.Codes.{codes}
use Rattle.command.specs.declared.code.Instr.{Instr as Code}
use Rattle.trial.specs.declared.debugger.Numbered.{Numbered}
use Rattle.trial.specs.Kept.{History, Holds, break_numbered, fresh}

pub first_at : (is : List Instr) (ins : List ℕ) → At first_moment (state_at is ins 0)
unfolding state_at so_many
first_at is ins = record { place = refl; registers = refl; took = refl; runs = refl }

-- a list set, as it is read
set_is : (xs : List ℕ) (p v a : ℕ) → p < length xs → get_or (set xs p v) a 0 ≡ pick (eqb p a) v (get_or xs a 0)
set_is xs p v a h =
    by_test (eqb p a)
    (λ (t : eqb p a ≡ true). let q : p ≡ a = eqb-true p a t in simp t (subst (λ z. get_or (set xs p v) z 0 ≡ v) q (get_or-set_same xs p v 0 h)))
    (λ (t : eqb p a ≡ false). simp t (get_or-set_other xs p a v 0 (λ q. eqb-false p a t (sym q))))

module _ (m : Moment) (s t : Model) (c : Came m s t) (ws : List ℕ) where
  pub redo_none : m.written ≡ None → Words ws s → Words ws t
  redo_none e h a = c.words a ∙ (rw e (h a))

  pub redo_some : (w : Written) → m.written ≡ Some w → w.place < length ws → Words ws s → Words (set ws w.place w.after) t
  redo_some w e lt h a = c.words a ∙ (rw (e, set_is ws w.place w.after a lt, h a) refl)

  pub undo_none : m.written ≡ None → Words ws t → Words ws s
  undo_none e h a = sym (rw e at (c.words a)) ∙ h a

  pub undo_some : (w : Written) → m.written ≡ Some w → w.place < length ws → Words ws t → Words (set ws w.place w.before) s
  undo_some w e lt h a =
      let b : w.before ≡ word_at s.words w.place = rw e at c.was in
      let n : word_at t.words a ≡ pick (eqb w.place a) w.after (word_at s.words a) = rw e at (c.words a) in
      sym (set_is ws w.place w.before a lt
      ∙ by_test (eqb w.place a)
      (λ (q : eqb w.place a ≡ true). let p : w.place ≡ a = eqb-true w.place a q in rw q (b ∙ ap (word_at s.words) p))
      (λ (q : eqb w.place a ≡ false). rw q (sym (h a) ∙ (rw q at n))))

module _ (is : List Instr) (ins : List ℕ) (past : List Moment) (h : History is ins past) where
  pub moment_at : (t : ℕ) (d : Moment) → t < length past → At (get_or past t d) (state_at is ins t)
  moment_at zero d lt = subst (λ m. At m (state_at is ins 0)) (sym (h.first d)) (first_at is ins)
  moment_at (suc t) d lt = (h.steps t d lt).now

  pub runs_at : (t : ℕ) (d : Moment) → t < length past → is_running (state_at is ins t).status ≡ true
  unfolding is_running
  runs_at t d lt = ap is_running (moment_at t d lt).runs

  pub goes_at : (t : ℕ) → suc t < length past → goes_on is ins t ≡ true
  goes_at t lt = runs_at (suc t) first_moment lt

zeros : (n a : ℕ) → ◌≡◌ {A = ℕ} (get_or (replicate n 0) a 0) 0
zeros zero a = refl
zeros (suc n) zero = refl
zeros (suc n) (suc a) = zeros n a

-- nothing was told yet
pub fresh_holds : (is : List Code) (fed : List ℕ) (past : List Moment) (ws : List ℕ) (bs : List Numbered)
    → is ≡ [] → fed ≡ [] → past ≡ first_moment ∷ [] → ws ≡ replicate 65536 0 → bs ≡ [] → Holds is fed past 0 ws bs 1 fresh
unfolding state_at word_at
fresh_holds is fed past ws bs ei ef ep ew eb =
    record {
      program = sym (ap codes ei);
      ins = sym ef;
      time = refl;
      breaks = sym (ap (each break_numbered) eb);
      next = refl;
      known = omega (arith, ap length ep);
      history = record {
        first = λ d. ap (λ z. get_or z 0 d) ep;
        steps = λ t d lt. absurd (omega (arith, lt, ap length ep));
      };
      words = λ a. sym (ap (λ z. get_or z a 0) ew ∙ zeros 65536 a);
    }
