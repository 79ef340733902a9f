-- The promise of an engine, from an invariant and a lemma for each command; and the promise turn by turn has the given one as a consequence.
-- Assumes nothing.
use Rattle.std.proofs.Common.{◌≡◌, ℕ, zero, suc, ◌≤◌, Bool, true, false, List, [], ◌∷◌, length, replicate, sym, refl, ◌∙◌, subst, inl, inr, arith, lit≤}
use Rattle.command.specs.Plain.{Command, fits, Plain, turn, may_step}
use Rattle.command.specs.Reader.{Read, none, some, read_command}
use Rattle.command.specs.Statements.{ReadExactly}
use Rattle.command.proofs.Spellings.{read_exactly}
use Rattle.target.specs.Run.{Engine, said, refused, World, Ran, world, fresh_target, refusal_end}
use Rattle.machine.specs.Engine.{written, plan, cells}
use Rattle.machine.specs.Promise.{Never, Said, May, Right, Whole, Holds, Holding, ran_as, first_plain, most_turns}
use Rattle.machine.specs.Plans.{Plans, engine_of}
use Rattle.machine.proofs.Memory.{steady_plans}
use Rattle.machine.proofs.Runs.{Ends, acts}

-- the given promise
right : (left : ℕ) (known : Command → Bool) (e : Engine) (v : World) (w : Plain) → Holds left known e v w → (ts : List (List ℕ)) → length ts ≤ left → Right known e v w ts
unfolding Holds Right
right left known e v w h [] l = refl
right zero known e v w h (t ∷ ts) l = absurd (omega (arith, l))
right (suc left) known e v w h (t ∷ ts) l =
    (most_turns, (h t).0, (h t).1, right left known e (ran_as e most_turns v t).here (h t).0 (h t).2 ts (omega (arith, l)))

pub holding_whole : (known : Command → Bool) (e : Engine) → Holding known e → Whole known e
unfolding Holding Whole
holding_whole known e h = (h.0, λ ts l. right 4294967296 known e _ first_plain h.1 ts l)

-- what a text says
says : (text : List ℕ) (c : Command) → read_command text ≡ some c → Said text c
unfolding Said ReadExactly
says text c e = (read_exactly text c).0 e

says_nothing : (text : List ℕ) → read_command text ≡ none → (c : Command) → Said text c → Never
unfolding Said ReadExactly
says_nothing text e c s = let f : none ≡ some c = sym e ∙ (read_exactly text c).1 s in cc

-- what is refused at once changes nothing
pub record Declined (j : ℕ) (v : World) (r : Ran) : Type 0 where
  pub ends : r.end ≡ j
  pub showed : r.showed ≡ []
  pub steps : r.steps ≡ 0
  pub here : r.here ≡ v

declined : (plans : Plans) (j : ℕ) (v : World) (text : List ℕ) → refusal_end j ≡ j → length v.memory ≡ cells → plans v.memory (said text) ≡ plan [] (refused j) →
    Ends plans 1 (Declined j v) v (said text) [] 0
unfolding written
declined plans j v text e s q = acts {b = 0} {ws = []} {a = refused j} s q (record { ends = e; showed = refl; steps = refl; here = refl })

-- what a run comes to that obeys a command, where Inv holds between commands, with so many to come
pub record Answers (Inv : ℕ → Plain → World → Type 0) (left : ℕ) (w : Plain) (c : Command) (r : Ran) : Type 0 where
  pub ends : r.end ≡ (turn w c).reply
  pub showed : r.showed ≡ (turn w c).shows
  pub within : r.steps ≤ may_step w c (turn w c)
  pub stands : Inv left (turn w c).next r.here

module _ (plans : Plans) (known : Command → Bool) (Inv : ℕ → Plain → World → Type 0)
    (sized : (left : ℕ) (w : Plain) (v : World) → Inv left w v → length v.memory ≡ cells)
    (less : (left : ℕ) (w : Plain) (v : World) → Inv (suc left) w v → Inv left w v)
    (no_command : (m text : List ℕ) → read_command text ≡ none → plans m (said text) ≡ plan [] (refused 1))
    (not_known : (m text : List ℕ) (c : Command) → read_command text ≡ some c → known c ≡ false → plans m (said text) ≡ plan [] (refused 2))
    (obeyed : (c : Command) (left : ℕ) (w : Plain) (v : World) (text : List ℕ) → known c ≡ true → fits c ≡ true → read_command text ≡ some c → Inv (suc left) w v →
    Ends plans most_turns (Answers Inv left w c) v (said text) [] 0) where
  abbrev Rest : ℕ → Type 0
  Rest left = (w : Plain) (v : World) → Inv left w v → Holds left known (engine_of plans) v w

  -- one command
  a_turn : (left : ℕ) → Rest left → (w : Plain) (v : World) → Inv (suc left) w v → (text : List ℕ) →
      (w₁ : Plain) × May known w text (ran_as (engine_of plans) most_turns v text) w₁ × Holds left known (engine_of plans) (ran_as (engine_of plans) most_turns v text).here w₁
  unfolding May Said
  a_turn left rest w v h text = by_read (read_command text) refl
    where
      r : Ran
      r = ran_as (engine_of plans) most_turns v text

      Goal : Type 0
      Goal = (w₁ : Plain) × May known w text r w₁ × Holds left known (engine_of plans) r.here w₁

      refuses : (j : ℕ) → refusal_end j ≡ j → plans v.memory (said text) ≡ plan [] (refused j) → (Declined j v r → May known w text r w) → Goal
      refuses j e q may =
          let d : Declined j v r = (declined plans j v text e (sized (suc left) w v h) q).from most_turns (lit≤ tt) in
          (w, may d, rest w r.here (subst (Inv left w) (sym d.here) (less left w v h)))

      by_known : (c : Command) → read_command text ≡ some c → (b : Bool) → known c ≡ b → Goal
      by_known c e true k =
          let s : Said text c = says text c e in
          let a : Answers Inv left w c r = (obeyed c left w v text k s.1 e h).from most_turns (omega arith) in
          ((turn w c).next, inl (c, s, k, a.ends, a.showed, refl, a.within), rest (turn w c).next r.here a.stands)
      by_known c e false k =
          refuses 2 refl (not_known v.memory text c e k) (λ d. inr (inl (c, says text c e, k, d.ends, d.showed, d.steps, refl)))

      by_read : (x : Read) → read_command text ≡ x → Goal
      by_read none e = refuses 1 refl (no_command v.memory text e) (λ d. inr (inr (says_nothing text e, d.ends, d.showed, d.steps, refl)))
      by_read (some c) e = by_known c e (known c) refl

  holds : (left : ℕ) → Rest left
  unfolding Holds
  holds zero w v h = refl
  holds (suc left) w v h = a_turn left (holds left) w v h

  pub holding : Inv 4294967296 first_plain (world (fresh_target []) (replicate cells 0)) → Holding known (engine_of plans)
  unfolding Holding engine_of
  holding h = (steady_plans plans, holds 4294967296 first_plain (world (fresh_target []) (replicate cells 0)) h)
