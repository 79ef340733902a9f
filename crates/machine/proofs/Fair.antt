-- Plans whose acts can be carried: this crate's, and engines that go by such plans. Assumes nothing.
use Rattle.std.proofs.Common.{◌≡◌, ℕ, suc, ◌+◌, ◌/◌, ◌≤◌, Bool, true, false, ◌&&◌, eqb, ltb, leb, List, [], ◌∷◌, length, Some, None, Option, sym, refl, ◌∙◌, subst, arith}
use Rattle.std.proofs.lemmas.Bool.{and_parts, leb-true, ltb-false, eq-eqb}
use Rattle.checkpoints.specs.Arrivals.{beginning_slot, arrival_slot, levels_reached}
use Rattle.command.specs.Plain.{Command, load, give, forward, back, run, rerun, changer, add_break, drop_break, where_now, registers, words_from, outs_from, fits, core}
use Rattle.command.specs.Reader.{Read, none, some, read_command}
use Rattle.command.proofs.Picks.{pick_both}
use Rattle.command.proofs.Spellings.{read_back}
use Rattle.target.specs.Run.{Event, said, came, saw, next}
use Rattle.checkpoints.specs.Strides.{stride}
use Rattle.machine.specs.Engine.{Plan, Write, puts, written, carried, cell, cells, phase, time, fed, steps_left, cursor, idle, ending, beginning, going_on, keeping, placing, telling, spacing, arrived, set_off, kept_or, come_to, went, begin, begin_read, on_came, on_saw, on_next, planned, own}
use Rattle.machine.specs.Fair.{FairAct, Fair}
use Rattle.machine.specs.Plans.{Plans, engine_of}
use Rattle.machine.proofs.Memory.{after, cell_put, own_plans}
use Rattle.machine.proofs.GapCells.{after_shut_else}

-- a plan on a memory, by what had come in before and has after its writes
abbrev pub FairPlan : List ℕ → Plan → Type 0
FairPlan m p = FairAct p.act (cell m fed) (cell (written p.writes m) fed)

-- writes that leave what has come in: those to closed places compute
abbrev pub Leaves : List Write → Type 0
Leaves ws = (v : ℕ) → after ws fed v ≡ v

-- no stride is longer than the spacing
stride_few : (now left : ℕ) → stride now left ≤ spacing
unfolding stride
stride_few now left = omega arith

module _ (m : List ℕ) (size : length m ≡ cells) where
  pub stays : (ws : List Write) → Leaves ws → cell (written ws m) fed ≡ cell m fed
  stays ws h = cell_put ws m fed size refl ∙ h (cell m fed)

  -- only the phase is written
  phased : (k : ℕ) → cell (written (puts phase k ∷ []) m) fed ≡ cell m fed
  phased k = stays (puts phase k ∷ []) (λ v. refl)

  pub fair_off : (ws : List Write) (now left : ℕ) → Leaves ws → FairPlan m (set_off ws now left)
  unfolding set_off arrived
  fair_off ws now left h =
      pick_both (FairPlan m) (eqb left 0) _ _ (λ _. stays (puts phase ending ∷ ws) h)
      (λ _. (stride_few now left, refl, stays (puts phase going_on ∷ ws) h))

  pub fair_kept : (o : Option ℕ) (ws : List Write) (p : Plan) → Leaves ws → FairPlan m p → FairPlan m (kept_or o ws p)
  unfolding kept_or
  fair_kept (Some k) ws p h f = stays ws h
  fair_kept None ws p h f = f

  pub fair_come : (b : Bool) (now left : ℕ) → FairPlan m (come_to b now left)
  unfolding come_to
  fair_come true now left =
      fair_kept (arrival_slot (now / spacing) 0) _ _ (λ v. after_shut_else (levels_reached (now / spacing)) fed v (λ i l q. omega (arith, q)))
      (fair_off (puts time now ∷ puts steps_left left ∷ []) now left (λ v. refl))
  fair_come false now left = fair_off (puts time now ∷ puts steps_left left ∷ []) now left (λ v. refl)

  -- a command that fits
  pub fair_begin : (c : Command) → fits c ≡ true → FairPlan m (begin m c)
  unfolding begin fits written
  fair_begin (load is) h = (leb-true _ _ (and_parts _ _ h).0, (and_parts _ _ h).1, cell_put (puts phase beginning ∷ puts cursor 0 ∷ puts time 0 ∷ puts fed 0 ∷ []) m fed size refl)
  fair_begin (give vs) h =
      pick_both (FairPlan m) (ltb 65536 (cell m fed + length vs)) _ _ (λ _. refl)
      (λ l.
      let all : ℕ = cell m fed + length vs in
      let room = ltb-false 65536 all l in
      let counted : cell (written (puts phase ending ∷ puts fed all ∷ []) m) fed ≡ all = cell_put (puts phase ending ∷ puts fed all ∷ []) m fed size refl ∙ omega (arith, room) in
      (leb-true (length vs) 4096 (and_parts _ _ h).0, (and_parts _ _ h).1, counted, omega (arith, room, counted)))
  fair_begin (forward n) h = fair_off (puts steps_left n ∷ []) (cell m time) n (λ v. refl)
  fair_begin (back n) h = refl
  fair_begin (run n) h = refl
  fair_begin (rerun n) h = refl
  fair_begin (changer a) h = refl
  fair_begin (add_break b) h = refl
  fair_begin (drop_break i) h = refl
  fair_begin where_now h = phased placing
  fair_begin registers h = phased telling
  fair_begin (words_from a n) h = phased telling
  fair_begin (outs_from a n) h = phased telling

  fair_read : (r : Read) → ((c : Command) → r ≡ some c → fits c ≡ true) → FairPlan m (begin_read m r)
  unfolding begin_read written
  fair_read none h = refl
  fair_read (some c) h = pick_both (FairPlan m) (core c) _ _ (λ _. fair_begin c (h c refl)) (λ _. refl)

  pub fair_planned : (ev : Event) → FairPlan m (planned m ev)
  unfolding planned on_came went on_saw on_next written
  fair_planned (said text) = fair_read (read_command text) (λ c e. (read_back text c e).1)
  fair_planned (came by hit why) = pick_both (FairPlan m) (eqb (cell m phase) going_on) _ _ (λ _. fair_come _ _ _) (λ _. refl)
  fair_planned (saw xs) =
      pick_both (FairPlan m) (eqb (cell m phase) placing) _ _ (λ _. phased ending)
      (λ _. pick_both (FairPlan m) (eqb (cell m phase) telling && leb (length xs) 4096) _ _ (λ _. phased ending) (λ _. refl))
  fair_planned next =
      let one_more : List Write = puts cursor (suc (cell m cursor)) ∷ [] in
      pick_both (FairPlan m) (eqb (cell m phase) ending) _ _ (λ _. phased idle)
      (λ _. pick_both (FairPlan m) (eqb (cell m phase) beginning) _ _ (λ _. fair_kept (beginning_slot (cell m cursor)) one_more _ (λ v. refl) (phased idle))
      (λ _. pick_both (FairPlan m) (eqb (cell m phase) keeping) _ _
      (λ _. fair_kept (arrival_slot (cell m time / spacing) (cell m cursor)) one_more _ (λ v. refl) (fair_off [] (cell m time) (cell m steps_left) (λ v. refl)))
      (λ _. refl)))

-- an engine whose plans are fair
pub fair_engine : (plans : Plans) → ((m : List ℕ) (ev : Event) → length m ≡ cells → FairPlan m (plans m ev)) → Fair (engine_of plans)
unfolding Fair engine_of carried
fair_engine plans f m ev e =
    subst (λ (b : Bool). FairAct (carried b (plans m ev) m).act (cell m fed) (cell (carried b (plans m ev) m).memory fed)) (sym (eq-eqb (length m) cells e)) (f m ev e)

pub fair : Fair own
fair = subst Fair own_plans (fair_engine planned (λ m ev e. fair_planned m e ev))
