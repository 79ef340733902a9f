-- Each act that is carried to the processor, from what its method promises.
use Rattle.std.proofs.Common.{◌≡◌, ℕ, ◌+◌, ◌<◌, false, List, length, get_or, take, drop, Ok, Err, Result, sym, ap, ◌∙◌, subst, arith}
use Rattle.command.specs.Machine.{every}
use Rattle.command.specs.Plain.{a_word}
use Rattle.command.specs.Reader.{Got, nothing, got, so_many, instr, break}
use Rattle.command.specs.Codes.{codes}
use Rattle.command.specs.Breaks.{breaks_of}
use Rattle.command.specs.declared.code.Instr.{Instr as Code}
use Rattle.command.specs.declared.breaks.Break.{Break}
use Rattle.target.specs.Run.{Act, starts, feeds, goes, keeps, takes_up, looks_regs, looks_words, looks_outs, looks_where, Target, saw}
use Rattle.target.specs.Acts.{Does, Begins, Feeds as Fed, Goes as Gone, Wanting, Keeps as Kept, TakesUp as Took}
use Rattle.target.specs.declared.answers.Came.{Came as Answer}
use Rattle.target.specs.declared.answers.Fault.{Fault}
use Rattle.target.specs.declared.answers.Fault.TheVariants.{TooLong, TooManyBreaks, NoSuchSlot, EmptySlot, TooManyNumbers, NoMemory as Wants}
use Rattle.target.proofs.Doing.{refuses_goes, refuses_words, refuses_outs}
use Rattle.machine.specs.Fair.{FairAct}
use Rattle.machine.specs.declared.acts.Look.TheVariants.{Registers, Words, Outs, Place}
use Rattle.machine.specs.declared.acts.Told.{Told}
use Rattle.machine.specs.declared.acts.Told.TheVariants.{Starts, Feeds, Goes, Keeps, TakesUp, Looks}
use Rattle.driver.specs.Carried.{Served, Serves}
use Rattle.driver.specs.declared.event.Event.{Event}
use Rattle.driver.specs.declared.event.Event.TheVariants.{Came, Saw, Next}
use Rattle.driver.specs.declared.event.Ending.{Ending}
use Rattle.driver.specs.declared.event.Ending.TheVariants as ending
use Rattle.driver.specs.declared.refusal.Refusal.TheVariants.{Fault as AFault}
use Rattle.std.specs.Result.{IsErrAnd}
use Rattle.std.proofs.lemmas.Bool.{false≢true}
use Rattle.std.proofs.lemmas.Result.{err_from_is_err_and}
use Rattle.driver.proofs.Shapes.{Shape, shape, program_back, breaks_back, breaks_count}

got_not : {A : Type 0} {g : Got A} {a : A} {u : List ℕ} → g ≡ got a u → g ≡ nothing → ⊥
got_not e n = let z : ◌≡◌ {A = ℕ} 0 1 = cc in absurd (omega (arith, z))

got_same : {A : Type 0} {g : Got A} {a b : A} {u v : List ℕ} → g ≡ got a u → g ≡ got b v → a ≡ b
got_same e h = cc

abbrev Heard : Type 0
Heard = Result Event Ending

-- an act that cannot be
abbrev pub Fell : Heard
Fell = Err (ending.Refused AFault)

-- what the processor's answer makes
abbrev pub heard_by : {A : Type 0} → Result A Fault → Heard
heard_by (Ok x) = Ok Next
heard_by (Err e) = Fell

abbrev pub heard_going : Result Answer Fault → Heard
heard_going (Ok c) = Ok (Came c)
heard_going (Err Wants) = Err ending.NoMemory
heard_going (Err TooLong) = Fell
heard_going (Err TooManyBreaks) = Fell
heard_going (Err NoSuchSlot) = Fell
heard_going (Err EmptySlot) = Fell
heard_going (Err TooManyNumbers) = Fell

module _ (row : List ℕ) (before after : Target → Type 0) (room : ℕ) (seen : List ℕ) where
  -- an act that is told so is this one
  abbrev Is : Told → Act → Type 0
  Is told b = (t : Target) → before t → (a : Act) → Shape told row a → (f : ℕ) → FairAct a (length t.fed) f → a ≡ b

  served : (told : Told) (h : Heard) (b : Act) → Is told b → ((t : Target) → before t → Served b t h room after seen) → Serves told row before h room after seen
  unfolding Serves
  served told h b is s t l a row₀ told-so f fair = subst (λ x. Served x t h room after seen) (sym (is t l a (shape a told row₀ row told-so) f fair)) (s t l)

  -- no act is told so
  abbrev Never : Told → Type 0
  Never told = (t : Target) → before t → (a : Act) → Shape told row a → (f : ℕ) → FairAct a (length t.fed) f → ⊥

  never : (told : Told) (h : Heard) → Never told → Serves told row before h room after seen
  unfolding Serves
  never told h none t l a row₀ told-so f fair = absurd (none t l a (shape a told row₀ row told-so) f fair)

  -- what the exit of a `?` answers, where the error is passed on and where it is a fault
  pub passed_on : (told : Told) (h : Heard) {e₀ : Ending} → e₀ ≡ ending.Refused AFault → IsErrAnd h (λ e. e ≡ e₀) → Serves told row before Fell room after seen → Serves told row before h room after seen
  passed_on told h z e s = let p = err_from_is_err_and h e in subst (λ x. Serves told row before x room after seen) (sym (p.1 ∙ ap Err (p.2 ∙ z))) s

  pub at_exit : (told : Told) (h : Heard) → IsErrAnd h (λ e. e ≡ ending.Refused AFault) → Serves told row before Fell room after seen → Serves told row before h room after seen
  at_exit told h e s = let p = err_from_is_err_and h e in subst (λ x. Serves told row before x room after seen) (sym (p.1 ∙ ap Err p.2)) s

  -- a program
  module _ (n : ℕ) where
    pub starts_few : (h : Heard) → 4096 < n → Serves (Starts n) row before h room after seen
    starts_few h many =
        never (Starts n) h
        (λ t l a (is, e, len, (o, r)) f fair. let p = subst (λ x. FairAct x (length t.fed) f) e fair in absurd (omega (arith, p.0, len, many)))

    pub starts_read : (h : Heard) (k : ℕ) → k ≡ n → so_many instr k row ≡ nothing → Serves (Starts n) row before h room after seen
    starts_read h k z none =
        never (Starts n) h
        (λ t l a (is, e, len, (o, r)) f fair. let p = subst (λ x. FairAct x (length t.fed) f) e fair in got_not (program_back is k o row p.1 (len ∙ sym z) r) none)

    module _ (k : ℕ) (z : k ≡ n) (xs : List Code) (u : List ℕ) (g : so_many instr k row ≡ got (codes xs) u) where
      starts_is : Is (Starts n) (starts (codes xs))
      starts_is t l a (is, e, len, (o, r)) f fair = let p = subst (λ x. FairAct x (length t.fed) f) e fair in e ∙ ap starts (got_same (program_back is k o row p.1 (len ∙ sym z) r) g)

      pub started : {A : Type 0} (r : Result A Fault) → Begins xs before after room r → Serves (Starts n) row before (heard_by r) room after seen
      started (Ok x) h = served (Starts n) (Ok Next) (starts (codes xs)) starts_is h.3
      started (Err TooLong) h = served (Starts n) Fell (starts (codes xs)) starts_is h.1
      started (Err TooManyBreaks) h = absurd h
      started (Err NoSuchSlot) h = absurd h
      started (Err EmptySlot) h = absurd h
      started (Err TooManyNumbers) h = absurd h
      started (Err Wants) h = absurd h

    -- numbers
    pub feeds_few : (h : Heard) → 4096 < n → Serves (Feeds n) row before h room after seen
    feeds_few h many =
        never (Feeds n) h (λ t l a (vs, e, len, r) f fair. let p = subst (λ x. FairAct x (length t.fed) f) e fair in absurd (omega (arith, p.0, len, many)))

    pub feeds_words : (h : Heard) (k : ℕ) → k ≡ n → every a_word (take k row) ≡ false → Serves (Feeds n) row before h room after seen
    feeds_words h k z wide =
        never (Feeds n) h
        (λ t l a (vs, e, len, r) f fair. let p = subst (λ x. FairAct x (length t.fed) f) e fair in false≢true (sym wide ∙ (ap (λ i. every a_word (take i row)) z ∙ (ap (every a_word) r ∙ p.1))))

    not_fed : (h : Heard) (xs : List ℕ) → length xs ≡ n → ((t : Target) → before t → (65536 < length t.fed + length xs) × after t) → Serves (Feeds n) row before h room after seen
    not_fed h xs g full =
        never (Feeds n) h
        (λ t l a (vs, e, len, r) f fair.
        let p = subst (λ x. FairAct x (length t.fed) f) e fair in
        absurd (omega (arith, p.2, p.3, g, len, (full t l).0)))

    pub fed : (xs : List ℕ) → length xs ≡ n → take (length xs) row ≡ xs → {A : Type 0} (r : Result A Fault) → Fed xs before after r → Serves (Feeds n) row before (heard_by r) room after seen
    fed xs z g (Ok x) h = served (Feeds n) (Ok Next) (feeds xs) (λ t l a (vs, e, len, r) f fair. e ∙ ap feeds (sym r ∙ (ap (λ k. take k row) (sym z) ∙ g))) h
    fed xs z g (Err TooLong) h = absurd h
    fed xs z g (Err TooManyBreaks) h = absurd h
    fed xs z g (Err NoSuchSlot) h = absurd h
    fed xs z g (Err EmptySlot) h = absurd h
    fed xs z g (Err TooManyNumbers) h = absurd h
    fed xs z g (Err Wants) h = not_fed Fell xs z h

    -- going on
    pub goes_few : 64 < get_or row 0 0 → ((t : Target) → before t → after t) → Serves (Goes n) row before Fell room after seen
    unfolding Serves
    goes_few many same t l a row₀ told-so f fair =
        let s = shape a (Goes n) row₀ row told-so in
        let long : 64 < length s.0 = omega (arith, many, breaks_count s.0 s.2.0 row s.2.1) in
        subst (λ x. Served x t Fell room after seen) (sym s.1) (refuses_goes before after n s.0 long same t l)

    pub goes_read : (h : Heard) (text : List ℕ) → text ≡ drop 1 row → (k : ℕ) → k ≡ get_or row 0 0 → so_many break k text ≡ nothing → Serves (Goes n) row before h room after seen
    goes_read h text z k q none =
        never (Goes n) h
        (λ t l a (bs, e, (o, r)) f fair. let p = subst (λ x. FairAct x (length t.fed) f) e fair in got_not (ap (so_many break (get_or row 0 0)) z ∙ breaks_back bs o row p.1 r) (ap (λ j. so_many break j text) (sym q) ∙ none))

    module _ (text : List ℕ) (z : text ≡ drop 1 row) (k : ℕ) (q : k ≡ get_or row 0 0) (bs : List Break) (u : List ℕ) (g : so_many break k text ≡ got (breaks_of bs) u) where
      goes_is : Is (Goes n) (goes n (breaks_of bs))
      goes_is t l a (cs, e, (o, r)) f fair =
          let p = subst (λ x. FairAct x (length t.fed) f) e fair in
          e ∙ ap (goes n) (got_same (ap (so_many break (get_or row 0 0)) z ∙ breaks_back cs o row p.1 r) (ap (λ j. so_many break j text) (sym q) ∙ g))

      -- a stride is no longer than this
      no_memory : ((t : Target) → before t → room < n) → Serves (Goes n) row before (Err ending.NoMemory) room after seen
      unfolding Serves
      no_memory full t l a row₀ told-so f fair =
          let s = shape a (Goes n) row₀ row told-so in
          let p = subst (λ x. FairAct x (length t.fed) f) s.1 fair in omega (arith, p.0, full t l)

      pub went : (room₀ : ℕ) (r : Result Answer Fault) → Gone n bs room₀ before after r → Wanting n room before r → Serves (Goes n) row before (heard_going r) room after seen
      went room₀ (Ok c) h wants = served (Goes n) (Ok (Came c)) (goes n (breaks_of bs)) goes_is h.1
      went room₀ (Err TooLong) h wants = absurd h
      went room₀ (Err TooManyBreaks) h wants = served (Goes n) Fell (goes n (breaks_of bs)) goes_is h.1
      went room₀ (Err NoSuchSlot) h wants = absurd h
      went room₀ (Err EmptySlot) h wants = absurd h
      went room₀ (Err TooManyNumbers) h wants = absurd h
      went room₀ (Err Wants) h wants = no_memory wants

  -- slots
  module _ (k : ℕ) {A : Type 0} where
    pub kept : (r : Result A Fault) → Kept k before after r → Serves (Keeps k) row before (heard_by r) room after seen
    kept (Ok x) h = served (Keeps k) (Ok Next) (keeps k) (λ t l a s f fair. s) h.1
    kept (Err TooLong) h = absurd h
    kept (Err TooManyBreaks) h = absurd h
    kept (Err NoSuchSlot) h = served (Keeps k) Fell (keeps k) (λ t l a s f fair. s) h.1
    kept (Err EmptySlot) h = absurd h
    kept (Err TooManyNumbers) h = absurd h
    kept (Err Wants) h = absurd h

    pub took : (r : Result A Fault) → Took k before after r → Serves (TakesUp k) row before (heard_by r) room after seen
    took (Ok x) h = served (TakesUp k) (Ok Next) (takes_up k) (λ t l a s f fair. s) h.1
    took (Err TooLong) h = absurd h
    took (Err TooManyBreaks) h = absurd h
    took (Err NoSuchSlot) h = served (TakesUp k) Fell (takes_up k) (λ t l a s f fair. s) h.1
    took (Err EmptySlot) h = served (TakesUp k) Fell (takes_up k) (λ t l a s f fair. s) h.1
    took (Err TooManyNumbers) h = absurd h
    took (Err Wants) h = absurd h

  -- looking
  pub saw_regs : (vs : List ℕ) → take 16 seen ≡ vs → Does looks_regs (saw vs) 0 before after → Serves (Looks Registers) row before (Ok (Saw 16)) room after seen
  saw_regs vs e d =
      served (Looks Registers) (Ok (Saw 16)) looks_regs (λ t l a s f fair. s) (subst (λ xs. Does looks_regs (saw xs) 0 before after) (sym e) d)

  pub saw_words : (n k : ℕ) (vs : List ℕ) → n ≡ get_or row 1 0 → take k seen ≡ vs → Does (looks_words (get_or row 0 0) n) (saw vs) 0 before after →
      Serves (Looks Words) row before (Ok (Saw k)) room after seen
  saw_words n k vs c e d =
      served (Looks Words) (Ok (Saw k)) (looks_words (get_or row 0 0) n) (λ t l a s f fair. s ∙ ap (looks_words (get_or row 0 0)) (sym c))
      (subst (λ xs. Does (looks_words (get_or row 0 0) n) (saw xs) 0 before after) (sym e) d)

  pub words_few : 4096 < get_or row 1 0 → ((t : Target) → before t → after t) → Serves (Looks Words) row before Fell room after seen
  words_few many same =
      served (Looks Words) Fell (looks_words (get_or row 0 0) (get_or row 1 0)) (λ t l a s f fair. s)
      (λ t l. let r = refuses_words before (get_or row 0 0) (get_or row 1 0) many t l in (same t l, r.1))

  pub saw_outs : (n k : ℕ) (vs : List ℕ) → n ≡ get_or row 1 0 → take k seen ≡ vs → Does (looks_outs (get_or row 0 0) n) (saw vs) 0 before after →
      Serves (Looks Outs) row before (Ok (Saw k)) room after seen
  saw_outs n k vs c e d =
      served (Looks Outs) (Ok (Saw k)) (looks_outs (get_or row 0 0) n) (λ t l a s f fair. s ∙ ap (looks_outs (get_or row 0 0)) (sym c))
      (subst (λ xs. Does (looks_outs (get_or row 0 0) n) (saw xs) 0 before after) (sym e) d)

  pub outs_few : 4096 < get_or row 1 0 → ((t : Target) → before t → after t) → Serves (Looks Outs) row before Fell room after seen
  outs_few many same =
      served (Looks Outs) Fell (looks_outs (get_or row 0 0) (get_or row 1 0)) (λ t l a s f fair. s)
      (λ t l. let r = refuses_outs before (get_or row 0 0) (get_or row 1 0) many t l in (same t l, r.1))

  pub saw_place : (vs : List ℕ) → take 2 seen ≡ vs → Does looks_where (saw vs) 0 before after → Serves (Looks Place) row before (Ok (Saw 2)) room after seen
  saw_place vs e d =
      served (Looks Place) (Ok (Saw 2)) looks_where (λ t l a s f fair. s) (subst (λ xs. Does looks_where (saw xs) 0 before after) (sym e) d)
