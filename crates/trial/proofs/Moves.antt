-- The debugger moved, and what it then holds. Assumes nothing.
use Rattle.std.proofs.Common.{◌≡◌, ℕ, suc, ◌+◌, ◌-◌, ◌<◌, ◌≤◌, Bool, true, false, not, eqb, List, [], ◌∷◌, ◌++◌, length, get_or, take, set, Some, None, Option, sym, refl, ap, ◌∙◌, subst, ⊎_elim, add-one, append-nil, reverse, arith}
use Rattle.std.proofs.lemmas.List.{get_or_append_left, get_or_push, get_or-reverse, get_or-take, length-reverse, length_push, length-take-le, take_more}
use Rattle.std.proofs.lemmas.Bool.{cases_lt, eq-eqb, true≢false}
use Rattle.std.specs.List.{AllWithin, HoldsAt}
use Rattle.std.specs.Option.{MatchOption}
use Rattle.command.specs.Machine.{any, each, those, word_at, Instr, State as Model, state_at, goes_on, is_running, step}
use Rattle.command.specs.Plain.{Plain, Break, at_time, moved, holds, holds_at, changes_at, last_change}
use Rattle.command.specs.Codes.{codes}
use Rattle.command.specs.Statements.{PastSame}
use Rattle.command.proofs.MoreInput.{past_same}
use Rattle.command.proofs.PastStays.{given}
use Rattle.command.proofs.StopsAre.{last_change_is, last_change_none}
use Rattle.command.specs.declared.code.Instr.{Instr as Code}
use Rattle.trial.specs.declared.moments.Moment.{Moment}
use Rattle.trial.specs.declared.moments.Written.{Written}
use Rattle.trial.specs.declared.moments.Why.{Why}
use Rattle.trial.specs.declared.moments.Why.TheVariants.{Halted, Waits, NoInstr, NoWord, ByZero}
use Rattle.trial.specs.declared.debugger.Numbered.{Numbered}
use Rattle.trial.specs.Moments.{At, Words, Came, status_of, first_moment}
use Rattle.trial.specs.Kept.{History, Holds, break_numbered}
use Rattle.trial.proofs.Histories.{first_at, moment_at, runs_at, goes_at, redo_none, redo_some, undo_none, undo_some}

stopped : (y : Why) → is_running (status_of y) ≡ false
unfolding is_running
stopped Halted = refl
stopped Waits = refl
stopped NoInstr = refl
stopped NoWord = refl
stopped ByZero = refl

pub stuck : (w : Plain) (y : Why) → (at_time w (suc w.now)).status ≡ status_of y → goes_on w.program w.ins w.now ≡ false
stuck w y f = ap is_running f ∙ stopped y

each_push : {A B : Type 0} (f : A → B) (xs : List A) (x : A) → each f (xs ++ x ∷ []) ≡ each f xs ++ f x ∷ []
each_push f [] x = refl
each_push f (y ∷ ys) x = ap (λ z. f y ∷ z) (each_push f ys x)

-- a moment says of the step that came to it whether that changed the word
abbrev pub Changed : ℕ → Bool → Moment → Type 0
Changed a b m = (s z : Model) → Came m s z → b ≡ not (eqb (word_at s.words a) (word_at z.words a))

-- none came to the beginning
not_first : (a : ℕ) (m : Moment) → m ≡ first_moment → Changed a true m → ⊥
not_first a m e f =
    let s : Model = state_at [] [] 0 in
    let c : Came first_moment s s = record { now = first_at [] []; words = λ b. refl; was = tt; out = sym (append-nil s.out) } in
    let g : true ≡ not (eqb (word_at s.words a) (word_at s.words a)) = f s s (subst (λ z. Came z s s) (sym e) c) in
    true≢false (g ∙ ap not (eq-eqb (word_at s.words a) _ refl))

-- one moment more
longer : (is : List Instr) (ins : List ℕ) (past : List Moment) (m : Moment) (t : ℕ) → length past ≡ suc t → History is ins past
    → Came m (state_at is ins t) (state_at is ins (suc t)) → History is ins (past ++ m ∷ [])
longer is ins past m t e h c =
    record {
      first = λ d. get_or_append_left past (m ∷ []) d 0 (omega arith) ∙ h.first d;
      steps = λ u d lt.
          ⊎_elim
          (λ (l : suc u < length past). subst (λ z. Came z (state_at is ins u) (state_at is ins (suc u))) (sym (get_or_append_left past (m ∷ []) d (suc u) l)) (h.steps u d l))
          (λ (l : length past ≤ suc u).
          let f : t ≡ u = omega (arith, length_push past m, lt) in
          subst (λ z. Came z (state_at is ins u) (state_at is ins (suc u))) (sym (get_or_push past m d (suc u) (omega arith)))
          (subst (λ z. Came m (state_at is ins z) (state_at is ins (suc z))) f c))
          (cases_lt (suc u) (length past));
    }

module _ (is : List Code) (fed : List ℕ) (past : List Moment) (t : ℕ) (ws : List ℕ) (bs : List Numbered) (n : ℕ) (w : Plain) (k : Holds is fed past t ws bs n w) where
  pub here : (d : Moment) → At (get_or past t d) (at_time w t)
  here d = moment_at w.program w.ins past k.history t d k.known

  came_to : (d : Moment) (u v : ℕ) → v ≡ suc u → v < length past → Came (get_or past v d) (at_time w u) (at_time w v)
  came_to d u v e lt = subst (λ z. Came (get_or past z d) (at_time w u) (at_time w z)) (sym e) (k.history.steps u d (omega arith))

  pub came : (d : Moment) → 0 < t → Came (get_or past t d) (at_time w (t - 1)) (at_time w t)
  came d pos = came_to d (t - 1) t (omega arith) k.known

  pub came_here : (m : Moment) → m ≡ get_or past t m → 0 < t → Came m (at_time w (t - 1)) (at_time w t)
  came_here m e pos = subst (λ z. Came z (at_time w (t - 1)) (at_time w t)) (sym e) (came m pos)

  pub moment_here : (m : Moment) → m ≡ get_or past t m → At m (at_time w w.now)
  moment_here m e = rw k.time (subst (λ z. At z (at_time w t)) (sym e) (here m))

  pub words_here : Words ws (at_time w w.now)
  words_here = rw k.time k.words

  pub asked : holds_at w w.breaks w.now ≡ any (holds (at_time w (t - 1)) (at_time w t)) (each break_numbered bs)
  asked = rw (k.time, k.breaks) refl

  -- whether the step to a time changed a word
  changed_at : (a v : ℕ) (b : Bool) → 1 ≤ v → v ≤ t → Changed a b (get_or past v first_moment) → changes_at w a v ≡ b
  changed_at a v b lo hi f = sym (f (at_time w (v - 1)) (at_time w v) (came_to first_moment (v - 1) v (omega arith) (omega (arith, k.known))))

  -- the moments so far, the last one first
  module _ (xs : List Moment) (e : xs ≡ take (t + 1) past) where
    so_many : length (reverse xs) ≡ t + 1
    so_many = length-reverse xs ∙ ap length e ∙ length-take-le (t + 1) past (omega (arith, k.known))

    ago : (i v : ℕ) → i + v ≡ t → get_or (reverse xs) i first_moment ≡ get_or past v first_moment
    ago i v q =
        let n : length xs ≡ t + 1 = sym (length-reverse xs) ∙ so_many in
        let j : length xs - 1 - i ≡ v = omega arith in
        get_or-reverse xs i first_moment (omega arith) ∙ ap (λ z. get_or xs z first_moment) j ∙ ap (λ z. get_or z v first_moment) e
        ∙ get_or-take (t + 1) past v first_moment (omega arith)

    still : (a v : ℕ) → 1 ≤ v → v ≤ t → Changed a false (get_or (reverse xs) (t - v) first_moment) → changes_at w a v ≡ false
    still a v lo hi f = changed_at a v false lo hi (subst (Changed a false) (ago (t - v) v (omega arith)) f)

    pub since : (a : ℕ) (r : Option ℕ)
        → MatchOption r (AllWithin (Changed a false) (reverse xs) 0 (length (reverse xs))) (λ i. (i < length (reverse xs)) × HoldsAt (Changed a true) (reverse xs) i × AllWithin (Changed a false) (reverse xs) 0 i)
        → MatchOption r (last_change w a w.now ≡ []) (λ i. last_change w a w.now ≡ (w.now - i) ∷ [])
    since a None h =
        last_change_none w a w.now (λ v lo hi. still a v lo (omega (arith, k.time)) (h (t - v) first_moment (omega arith) (omega (arith, so_many))))
    since a (Some i) h =
        let v = t - i in
        let most : i ≤ t = omega (arith, h.0, so_many) in
        let q : i + v ≡ t = omega arith in
        let g : Changed a true (get_or past v first_moment) = subst (Changed a true) (ago i v q) (h.1 first_moment) in
        ⊎_elim
        (λ (lo : 0 < v).
        last_change_is w a w.now v (changed_at a v true lo (omega arith) g) lo (omega (arith, k.time))
        (λ u p hi. still a u (omega arith) (omega (arith, k.time)) (h.2 (t - u) first_moment (omega arith) (omega (arith, k.time))))
        ∙ ap (λ z. z ∷ []) (omega (arith, k.time)))
        (λ (z : v ≤ 0).
        let zero_is : v ≡ 0 = omega arith in
        absurd (not_first a _ (k.history.first first_moment) (subst (λ z. Changed a true (get_or past z first_moment)) zero_is g)))
        (cases_lt 0 v)

  pub goes : t + 1 < length past → goes_on w.program w.ins w.now ≡ true
  goes lt = rw k.time (goes_at w.program w.ins past k.history t (omega arith))

  -- elsewhere in the same history
  elsewhere : (u v : ℕ) (xs : List ℕ) → u ≡ v → v < length past → Words xs (at_time w v) → Holds is fed past v xs bs n (moved w u)
  elsewhere u v xs e lt h =
      record { program = k.program; ins = k.ins; time = e; breaks = k.breaks; next = k.next; known = lt; history = k.history; words = h }

  -- a step on that was made, and one back
  on_time : w.now + 1 ≡ t + 1
  on_time = ap (λ z. z + 1) k.time

  back_time : w.now - 1 ≡ t - 1
  back_time = ap (λ z. z - 1) k.time

  pub on_none : (m : Moment) → m ≡ get_or past (t + 1) m → t + 1 < length past → m.written ≡ None → Holds is fed past (t + 1) ws bs n (moved w (w.now + 1))
  on_none m e lt f =
      let c = subst (λ z. Came z (at_time w t) (at_time w (t + 1))) (sym e) (came_to m t (t + 1) (add-one t) lt) in
      elsewhere (w.now + 1) (t + 1) ws on_time lt (redo_none m (at_time w t) (at_time w (t + 1)) c ws f k.words)

  pub on_some : (m : Moment) (r : Written) (vs : List ℕ) → m ≡ get_or past (t + 1) m → t + 1 < length past → m.written ≡ Some r → r.place < length ws
      → vs ≡ set ws r.place r.after → Holds is fed past (t + 1) vs bs n (moved w (w.now + 1))
  on_some m r vs e lt f p g =
      let c = subst (λ z. Came z (at_time w t) (at_time w (t + 1))) (sym e) (came_to m t (t + 1) (add-one t) lt) in
      elsewhere (w.now + 1) (t + 1) vs on_time lt
      (subst (λ z. Words z (at_time w (t + 1))) (sym g) (redo_some m (at_time w t) (at_time w (t + 1)) c ws r f p k.words))

  pub back_none : (m : Moment) → m ≡ get_or past t m → 0 < t → m.written ≡ None → Holds is fed past (t - 1) ws bs n (moved w (w.now - 1))
  back_none m e pos f =
      let c = subst (λ z. Came z (at_time w (t - 1)) (at_time w t)) (sym e) (came m pos) in
      elsewhere (w.now - 1) (t - 1) ws back_time (omega (arith, k.known)) (undo_none m (at_time w (t - 1)) (at_time w t) c ws f k.words)

  pub back_some : (m : Moment) (r : Written) (vs : List ℕ) → m ≡ get_or past t m → 0 < t → m.written ≡ Some r → r.place < length ws
      → vs ≡ set ws r.place r.before → Holds is fed past (t - 1) vs bs n (moved w (w.now - 1))
  back_some m r vs e pos f p g =
      let c = subst (λ z. Came z (at_time w (t - 1)) (at_time w t)) (sym e) (came m pos) in
      elsewhere (w.now - 1) (t - 1) vs back_time (omega (arith, k.known))
      (subst (λ z. Words z (at_time w (t - 1))) (sym g) (undo_some m (at_time w (t - 1)) (at_time w t) c ws r f p k.words))

  -- a step that is made
  pub next_is : (js : List Code) (ns : List ℕ) (m : Moment) → js ≡ is → ns ≡ fed → m ≡ get_or past t m → (P : Model → Model → Type 0)
      → ((s : Model) → At m s → Words ws s → P s (step (codes js) ns s)) → P (at_time w t) (at_time w (suc t))
  unfolding state_at
  next_is js ns m ej en em P f =
      let a : At m (at_time w t) = subst (λ z. At z (at_time w t)) (sym em) (here m) in
      let p : codes js ≡ w.program = ap codes ej ∙ sym k.program in
      let i : ns ≡ w.ins = en ∙ sym k.ins in
      subst (λ z. P (at_time w t) (step w.program z (at_time w t))) i (subst (λ z. P (at_time w t) (step z ns (at_time w t))) p (f (at_time w t) a k.words))

  pub more : (q : Moment) (new : List Moment) → Came q (at_time w w.now) (at_time w (suc w.now)) → length past ≡ t + 1 → new ≡ past ++ q ∷ []
      → (goes_on w.program w.ins w.now ≡ true) × Holds is fed new t ws bs n w
  unfolding is_running
  more q new f e g =
      let c : Came q (at_time w t) (at_time w (suc t)) = subst (λ z. Came q (at_time w z) (at_time w (suc z))) k.time f in
      let h = subst (History w.program w.ins) (sym g) (longer w.program w.ins past q t (e ∙ add-one t) k.history c) in (
        ap is_running f.now.runs,
        record {
          program = k.program;
          ins = k.ins;
          time = k.time;
          breaks = k.breaks;
          next = k.next;
          known = omega (arith, ap length g, length_push past q, k.known);
          history = h;
          words = k.words;
        },
      )

  -- more comes in, and the past stays
  module _ (vs ns : List ℕ) (e : ns ≡ fed ++ vs) where
    same_state : (u : ℕ) → u < length past → state_at w.program (w.ins ++ vs) u ≡ at_time w u
    unfolding PastSame
    same_state u lt = past_same w.program w.ins vs u (runs_at w.program w.ins past k.history u first_moment lt)

    given_history : History w.program (w.ins ++ vs) past
    given_history =
        record {
          first = k.history.first;
          steps = λ u d lt.
              subst (λ z. Came (get_or past (suc u) d) z (state_at w.program (w.ins ++ vs) (suc u))) (sym (same_state u (omega arith)))
              (subst (λ z. Came (get_or past (suc u) d) (at_time w u) z) (sym (same_state (suc u) lt)) (k.history.steps u d lt));
        }

    pub given_more : Holds is ns past t ws bs n (given w vs)
    given_more =
        record {
          program = k.program;
          ins = ap (λ z. z ++ vs) k.ins ∙ sym e;
          time = k.time;
          breaks = k.breaks;
          next = k.next;
          known = k.known;
          history = given_history;
          words = subst (Words ws) (sym (same_state t k.known)) k.words;
        }

  -- all begins anew
  pub begun : (ps : List Instr) (js : List Code) (ns : List ℕ) (new : List Moment) (cs : List Numbered) → t ≡ 0 → ps ≡ codes js → ns ≡ [] → new ≡ take 1 past → cs ≡ []
      → Holds js ns new t ws cs 1 (record { program = ps; ins = []; now = 0; breaks = []; next = 1 })
  unfolding state_at
  begun ps js ns new cs z ej en ep ec =
      let l : length new ≡ 1 = ap length ep ∙ length-take-le 1 past (omega (arith, k.known)) in
      let h : Words ws (at_time w 0) = subst (λ u. Words ws (at_time w u)) z k.words in
      record {
        program = ej;
        ins = sym en;
        time = sym z;
        breaks = sym (ap (each break_numbered) ec);
        next = refl;
        known = omega arith;
        history = record {
          first = λ d. ap (λ z. get_or z 0 d) (ep ∙ take_more past 0 d (omega (arith, k.known))) ∙ k.history.first d;
          steps = λ u d lt. absurd (omega (arith, lt, l));
        };
        words = subst (λ u. Words ws (state_at ps [] u)) (sym z) h;
      }

  -- the same with other breaks
  other_breaks : (cs : List Numbered) (u : ℕ) (asks : List Break) (v : ℕ) → asks ≡ each break_numbered cs → v ≡ u
      → Holds is fed past t ws cs u (record { program = w.program; ins = w.ins; now = w.now; breaks = asks; next = v })
  other_breaks cs u asks v e f = record { program = k.program; ins = k.ins; time = k.time; breaks = e; next = f; known = k.known; history = k.history; words = k.words }

  pub with_break : (b : Numbered) (cs : List Numbered) (u : ℕ) → b.number ≡ n → u ≡ n + 1 → cs ≡ bs ++ b ∷ []
      → Holds is fed past t ws cs u (record { program = w.program; ins = w.ins; now = w.now; breaks = w.breaks ++ record { id = w.next; place = (break_numbered b).place; tests = (break_numbered b).tests; changed = (break_numbered b).changed } ∷ []; next = suc w.next })
  with_break b cs u en eu ec =
      other_breaks cs u _ _ (rw (k.next, sym en, k.breaks) (sym (ap (each break_numbered) ec ∙ each_push break_numbered bs b))) (ap suc k.next ∙ sym (eu ∙ add-one n))

  pub without_break : (i : ℕ) (cs : List Numbered) → each break_numbered cs ≡ those (λ b. not (eqb b.id i)) (each break_numbered bs)
      → Holds is fed past t ws cs n (record { program = w.program; ins = w.ins; now = w.now; breaks = those (λ b. not (eqb b.id i)) w.breaks; next = w.next })
  without_break i cs e = other_breaks cs n _ _ (ap (those (λ b. not (eqb b.id i))) k.breaks ∙ sym e) k.next
