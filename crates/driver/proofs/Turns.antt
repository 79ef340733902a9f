-- A turn of the loop is a turn of the run.
use Rattle.std.proofs.Common.{◌≡◌, ℕ, suc, ◌+◌, ◌%◌, ◌<◌, ◌≤◌, List, [], ◌∷◌, ◌++◌, length, Ok, Err, Result, sym, refl, ap, ◌∙◌, subst, arith}
use Rattle.std.proofs.lemmas.List.{length-append}
use Rattle.target.specs.Run.{Event, said, next, Target, Ran, ran, world, one_act, runs}
use Rattle.machine.specs.Engine.{own, cell, fed}
use Rattle.machine.specs.Entry.{ActTold}
use Rattle.machine.specs.Fair.{FairAct, Fair}
use Rattle.machine.specs.Promise.{most_turns}
use Rattle.machine.specs.declared.acts.Told.{Told}
use Rattle.machine.proofs.Fair.{fair}
use Rattle.driver.specs.Refusals.{refusal_number}
use Rattle.driver.specs.Carried.{meant, steps_of, Follows, Sound, EndsSo, Carried, Carries}
use Rattle.driver.specs.Says.{limit, answer_of, Counted, OnTheWay, EndedAs, WentAs}
use Rattle.driver.specs.declared.event.Event as event
use Rattle.driver.specs.declared.event.Event.TheVariants.{Said, Came, Saw, Next}
use Rattle.driver.specs.declared.event.Ending.{Ending}
use Rattle.driver.specs.declared.event.Ending.TheVariants as ending
use Rattle.driver.proofs.Growing.{grows, counts_on, counts_over}

-- what follows an act is the same event whatever the command was
pub follows_meant : (ev : event.Event) (n : ℕ) (text text₁ seen : List ℕ) → Follows ev n → meant ev text seen ≡ meant ev text₁ seen
follows_meant Said n text text₁ seen h = absurd h
follows_meant (Came c) n text text₁ seen h = refl
follows_meant (Saw k) n text text₁ seen h = refl
follows_meant Next n text text₁ seen h = refl

pub follows_sound : (ev : event.Event) (n : ℕ) → Follows ev n → Sound ev n
follows_sound Said n h = absurd h
follows_sound (Came c) n h = tt
follows_sound (Saw k) n h = h
follows_sound Next n h = tt

pub begins : (L : Target → Type 0) (t : Target) (m text : List ℕ) (ss : List (List ℕ)) → L t → Counted t m →
    OnTheWay most_turns L m (said text) ss 0 (runs most_turns own (world t m) (said text) ss 0)
unfolding OnTheWay
begins L t m text ss l q = (t, l, q, (0, refl, refl))

pub so_far : {n n₁ : ℕ} (L : Target → Type 0) (m : List ℕ) {ev ev₁ : Event} (ss : List (List ℕ)) {steps steps₁ : ℕ} (whole : Ran) → n ≡ n₁ → ev ≡ ev₁ → steps ≡ steps₁ →
    OnTheWay n L m ev ss steps whole → OnTheWay n₁ L m ev₁ ss steps₁ whole
so_far {n} {n₁} L m {ev} {ev₁} ss {steps} {steps₁} whole e q s h = subst (λ x. OnTheWay n₁ L m ev₁ ss x whole) s (subst (λ x. OnTheWay n₁ L m x ss steps whole) q (subst (λ x. OnTheWay x L m ev ss steps whole) e h))

-- a run that ended so
ended : (L : Target → Type 0) (t : Target) (m : List ℕ) (ss : List (List ℕ)) (j e steps : ℕ) (whole : Ran) → ran (world t m) ss j e ≡ whole → steps ≡ j % limit → L t → Counted t m →
    EndedAs whole e steps L m ss
ended L t m ss j e steps whole z s l q = (
  ap (λ v. v.end) z,
  s ∙ ap (λ v. v.steps % limit) z,
  subst (λ v. L v.here.target) z l,
  subst (λ v. Counted v.here.target m) z q,
  ap (λ v. v.here.memory) z,
  ap (λ v. v.showed) z,
)

module _ (L : Target → Type 0) (m : List ℕ) (ss : List (List ℕ)) (ev : Event) (row₀ row : List ℕ) (told : Told) (m₁ : List ℕ) (L₁ : Target → Type 0) (ss₁ : List (List ℕ)) (room : ℕ)
    (seen : List ℕ) (n steps : ℕ) (whole : Ran) (long : length m ≡ 32000) (after : m₁ ≡ (own.step m ev).memory) (told_so : ActTold (own.step m ev).act told row₀ row) where
  fair_here : (t : Target) → Counted t m → FairAct (own.step m ev).act (length t.fed) (cell m₁ fed)
  unfolding Fair
  fair_here t q =
      subst (λ x. FairAct (own.step m ev).act x (cell m₁ fed)) (sym q)
      (subst (λ x. FairAct (own.step m ev).act (cell m fed) (cell x fed)) (sym after) (fair m ev long))

  carried : (h : Result event.Event Ending) → Carries told row L ss h room L₁ ss₁ seen → (t : Target) → L t → Counted t m → Carried (own.step m ev).act t ss h room L₁ ss₁ seen
  unfolding Carries
  carried h that t l q = that t l (own.step m ev).act row₀ told_so (cell m₁ fed) (fair_here t q)

  pub turn_on : (then : event.Event) → Carries told row L ss (Ok then) room L₁ ss₁ seen → OnTheWay (suc n) L m ev ss steps whole →
      OnTheWay n L₁ m₁ (meant then [] seen) ss₁ ((steps + steps_of then) % limit) whole
  unfolding OnTheWay runs
  turn_on then that (t, l, q, (j, s, w)) =
      let f = carried (Ok then) that t l q in (
        f.0,
        f.1,
        counts_on (own.step m ev).act t f.0 ss ss₁ (meant then [] seen) (steps_of then) (cell m₁ fed) f.2 (fair_here t q),
        (
          j + steps_of then,
          omega (arith, s),
          ap (λ v. runs n own (world f.0 v) (meant then [] seen) ss₁ (j + steps_of then)) after
              ∙ (sym (f.2 (λ w₁ ev₁ ss₂ k₁. runs n own w₁ ev₁ ss₂ k₁) j (own.step m ev).memory) ∙ w),
        ),
      )

  ends : (h : Result event.Event Ending) (e : ℕ) → (Carries told row L ss h room L₁ ss₁ seen → (t : Target) → L t → Counted t m → EndsSo (own.step m ev).act t ss e L₁ ss₁) →
      Carries told row L ss h room L₁ ss₁ seen → OnTheWay (suc n) L m ev ss steps whole → EndedAs whole e steps L₁ m₁ ss₁
  unfolding OnTheWay runs
  ends h e so that (t, l, q, (j, s, w)) =
      let f = so that t l q in
      let z : ran (world t m₁) ss₁ j e ≡ whole =
      ap (λ v. ran (world t v) ss₁ j e) after
      ∙ (ap (λ v. ran (world t (own.step m ev).memory) v j e) f.1 ∙ (sym (f.2 (λ w₁ ev₁ ss₂ k₁. runs n own w₁ ev₁ ss₂ k₁) j (own.step m ev).memory) ∙ w)) in
      ended L₁ t m₁ ss₁ j e steps whole z s f.0 (counts_over (own.step m ev).act t ss e (cell m₁ fed) f.2 (fair_here t q))

  turn_no_memory : Carries told row L ss (Err ending.NoMemory) room L₁ ss₁ seen → OnTheWay (suc n) L m ev ss steps whole → room < 4096
  unfolding OnTheWay
  turn_no_memory that (t, l, q, more) = carried (Err ending.NoMemory) that t l q

  turn_twice : Carries told row L ss (Err ending.ShownTwice) room L₁ ss₁ seen → OnTheWay (suc n) L m ev ss steps whole → length whole.showed ≤ 1 → ⊥
  unfolding OnTheWay runs one_act
  turn_twice that (t, l, q, (j, s, w)) one =
      let f = carried (Err ending.ShownTwice) that t l q in
      let z : runs n own (world t (own.step m ev).memory) next (ss ++ f.0 ∷ []) j ≡ whole = ap (one_act (λ w₁ ev₁ ss₂ k₁. runs n own w₁ ev₁ ss₂ k₁) t ss j (own.step m ev).memory) (sym f.1) ∙ w in
      absurd (omega (arith, one, f.2, ap (λ v. length v.showed) z, grows n own (world t (own.step m ev).memory) next (ss ++ f.0 ∷ []) j, length-append ss (f.0 ∷ [])))

  -- if no more than one text is shown
  pub turn_ends : (e : Ending) → Carries told row L ss (Err e) room L₁ ss₁ seen → OnTheWay (suc n) L m ev ss steps whole → length whole.showed ≤ 1 →
      WentAs whole (answer_of e steps) room L₁ m₁ ss₁
  turn_ends ending.Done that way one = ends (Err ending.Done) 0 (carried (Err ending.Done)) that way
  turn_ends (ending.Refused why) that way one = ends (Err (ending.Refused why)) (refusal_number why) (carried (Err (ending.Refused why))) that way
  turn_ends ending.NoMemory that way one = turn_no_memory that way
  turn_ends ending.ShownTwice that way one = absurd (turn_twice that way one)

pub runs_out : (n : ℕ) (L : Target → Type 0) (m : List ℕ) (ev : Event) (ss : List (List ℕ)) (steps : ℕ) (whole : Ran) → n ≡ 0 → OnTheWay n L m ev ss steps whole →
    EndedAs whole 1000 steps L m ss
unfolding OnTheWay runs
runs_out n L m ev ss steps whole e (t, l, q, (j, s, w)) = ended L t m ss j 1000 steps whole (ap (λ x. runs x own (world t m) ev ss j) (sym e) ∙ w) s l q
