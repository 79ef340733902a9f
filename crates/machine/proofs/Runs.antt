-- How a run of an engine goes, act by act: what is left to show after each, and in how many turns. Assumes nothing.
use Rattle.std.proofs.Common.{◌≡◌, ℕ, zero, suc, ◌+◌, ◌≤◌, Bool, true, ltb, leb, List, [], ◌∷◌, ◌++◌, length, take, drop, sym, ap, ◌∙◌, subst, arith}
use Rattle.std.proofs.lemmas.Bool.{eq-eqb}
use Rattle.command.specs.Machine.{pick, State, step}
use Rattle.command.specs.Plain.{status_number}
use Rattle.target.specs.Run.{Event, came, saw, next, Act, starts, feeds, goes, keeps, takes_up, looks_regs, looks_words, looks_outs, looks_where, shows, done, refused, Step, Target, World, Ran, world, ran, fresh_target, with_state, keep_in, going, slot_of, taken_up, words_of, refusal_end, one_act, runs}
use Rattle.machine.specs.Engine.{Write, written, Plan, plan, carried, cells}
use Rattle.machine.specs.Plans.{Plans, engine_of}

-- A RUN FROM HERE ENDS within b turns, and what it comes to is as P says: in however many turns, from b on
pub record Ends (plans : Plans) (b : ℕ) (P : Ran → Type 0) (v : World) (ev : Event) (ss : List (List ℕ)) (k : ℕ) : Type 0 where
  pub from : (n : ℕ) → b ≤ n → P (runs n (engine_of plans) v ev ss k)

pub ends_within : {plans : Plans} {b b₁ : ℕ} {P : Ran → Type 0} {v : World} {ev : Event} {ss : List (List ℕ)} {k : ℕ} →
    b ≤ b₁ → Ends plans b P v ev ss k → Ends plans b₁ P v ev ss k
ends_within h e = record { from = λ n l. e.from n (omega (arith, h, l)) }

-- what it comes to may be weakened
pub ends_as : {plans : Plans} {b : ℕ} {P Q : Ran → Type 0} {v : World} {ev : Event} {ss : List (List ℕ)} {k : ℕ} →
    ((r : Ran) → P r → Q r) → Ends plans b P v ev ss k → Ends plans b Q v ev ss k
ends_as f e = record { from = λ n l. f _ (e.from n l) }

-- what is left to show once an act is chosen
abbrev pub Then : Plans → ℕ → (Ran → Type 0) → Target → List ℕ → List (List ℕ) → ℕ → Act → Type 0
Then plans b P t m ss k (starts is) = (leb (length is) 4096 ≡ true) × Ends plans b P (world (fresh_target is) m) next ss k
Then plans b P t m ss k (feeds vs) = Ends plans b P (world (record { program = t.program; fed = t.fed ++ vs; state = t.state; slots = t.slots }) m) next ss k
Then plans b P t m ss k (goes n bs) =
    (leb (length bs) 64 ≡ true)
    × Ends plans b P (world (with_state t (going n t.program t.fed bs t.state 0).state) m)
    (came (going n t.program t.fed bs t.state 0).by (going n t.program t.fed bs t.state 0).hit (going n t.program t.fed bs t.state 0).why)
    ss (k + (going n t.program t.fed bs t.state 0).by)
Then plans b P t m ss k (keeps j) = (ltb j 256 ≡ true) × Ends plans b P (world (keep_in t j) m) next ss k
Then plans b P t m ss k (takes_up j) = (s : State) × (rest : List State) × (slot_of t.slots j ≡ s ∷ rest) × Ends plans b P (world (with_state t s) m) next ss k
Then plans b P t m ss k looks_regs = Ends plans b P (world t m) (saw t.state.regs) ss k
Then plans b P t m ss k (looks_words a n) = (leb n 4096 ≡ true) × Ends plans b P (world t m) (saw (words_of t a n)) ss k
Then plans b P t m ss k (looks_outs a n) = (leb n 4096 ≡ true) × Ends plans b P (world t m) (saw (take n (drop a t.state.out))) ss k
Then plans b P t m ss k looks_where = Ends plans b P (world t m) (saw (t.state.at ∷ status_number (step t.program t.fed t.state).status ∷ [])) ss k
Then plans b P t m ss k (shows s) = Ends plans b P (world t m) next (ss ++ s ∷ []) k
Then plans b P t m ss k done = P (ran (world t m) ss k 0)
Then plans b P t m ss k (refused j) = P (ran (world t m) ss k (refusal_end j))

module _ (plans : Plans) (b : ℕ) (P : Ran → Type 0) (t : Target) (m : List ℕ) (ss : List (List ℕ)) (k n : ℕ) (l : b ≤ n) where
  if_true : {A : Type 0} (Q : A → Type 0) (c : Bool) (x y : A) → c ≡ true → Q x → Q (pick c x y)
  if_true Q c x y e q = subst (λ (d : Bool). Q (pick d x y)) (sym e) q

  -- an act that is right has a run after it
  after_act : (a : Act) → Then plans b P t m ss k a → P (one_act (λ w₁ ev₁ ss₁ k₁. runs n (engine_of plans) w₁ ev₁ ss₁ k₁) t ss k m a)
  unfolding one_act taken_up
  after_act (starts is) h = if_true P _ _ _ h.0 (h.1.from n l)
  after_act (feeds vs) h = h.from n l
  after_act (goes i bs) h = if_true P _ _ _ h.0 (h.1.from n l)
  after_act (keeps j) h = if_true P _ _ _ h.0 (h.1.from n l)
  after_act (takes_up j) h =
      subst (λ (x : List State). P (taken_up (λ w₁ ev₁ ss₁ k₁. runs n (engine_of plans) w₁ ev₁ ss₁ k₁) t ss k m x)) (sym h.2) (h.3.from n l)
  after_act looks_regs h = h.from n l
  after_act (looks_words a i) h = if_true P _ _ _ h.0 (h.1.from n l)
  after_act (looks_outs a i) h = if_true P _ _ _ h.0 (h.1.from n l)
  after_act looks_where h = h.from n l
  after_act (shows s) h = h.from n l
  after_act done h = h
  after_act (refused j) h = h

-- a step of the engine, at a memory of its own length
stepped : (plans : Plans) (m : List ℕ) (ev : Event) (ws : List Write) (a : Act) → length m ≡ cells → plans m ev ≡ plan ws a →
    (engine_of plans).step m ev ≡ record { memory = written ws m; act = a }
unfolding engine_of carried
stepped plans m ev ws a e q = ap (λ (b : Bool). carried b (plans m ev) m) (eq-eqb (length m) cells e) ∙ ap (λ (p : Plan). carried true p m) q

-- THE RULE: with a step's plan known, what is left is what its act leaves, in one turn fewer
pub acts : {plans : Plans} {b : ℕ} {P : Ran → Type 0} {t : Target} {m : List ℕ} {ev : Event} {ss : List (List ℕ)} {k : ℕ} {ws : List Write} {a : Act} →
    length m ≡ cells → plans m ev ≡ plan ws a → Then plans b P t (written ws m) ss k a → Ends plans (suc b) P (world t m) ev ss k
unfolding runs
acts {plans} {b} {P} {t} {m} {ev} {ss} {k} {ws} {a} e q h = record { from = by }
  where
    by : (n : ℕ) → suc b ≤ n → P (runs n (engine_of plans) (world t m) ev ss k)
    by zero l = absurd (omega (arith, l))
    by (suc n) l =
        subst (λ (s : Step). P (one_act (λ w₁ ev₁ ss₁ k₁. runs n (engine_of plans) w₁ ev₁ ss₁ k₁) t ss k s.memory s.act))
        (sym (stepped plans m ev ws a e q)) (after_act plans b P t (written ws m) ss k n (omega (arith, l)) a h)
