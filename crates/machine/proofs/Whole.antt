-- The promise of the core: a lemma for each command that is known, and what holds at the start. Assumes nothing.
use Rattle.std.proofs.Common.{◌≡◌, ℕ, zero, suc, ◌+◌, ◌<◌, ◌≤◌, Bool, true, false, List, [], ◌∷◌, length, replicate, sym, refl, ap, ◌∙◌, subst, inl, arith, lit≤}
use lib.ListN.{length-replicate, get_or-replicate}
use Rattle.std.proofs.lemmas.Bool.{false≢true}
use Rattle.command.specs.Machine.{pick, state_at}
use Rattle.command.specs.Plain.{Command, load, give, forward, back, run, rerun, changer, add_break, drop_break, where_now, registers, words_from, outs_from, core, fits, Plain}
use Rattle.command.specs.Reader.{none, some, read_command}
use Rattle.command.proofs.Running.{runs_first}
use Rattle.target.specs.Run.{said, refused, Slot, World, Ran, world, fresh_target}
use Rattle.checkpoints.specs.Statements.{Small, Gaps}
use Rattle.machine.specs.Engine.{plan, planned, begin, begin_read, own, cell, cells, time, fed}
use Rattle.machine.specs.Promise.{Whole, Holding, first_plain, most_turns}
use Rattle.machine.specs.Plans.{Plans, Agrees}
use Rattle.machine.proofs.Memory.{own_plans}
use Rattle.machine.proofs.Runs.{Ends, ends_as}
use Rattle.machine.proofs.GapCells.{row}
use Rattle.machine.proofs.Kept.{target_of}
use Rattle.machine.proofs.Stands.{Stands, Obeys, Obeyed, stands_less}
use Rattle.machine.proofs.Looks.{where_obeyed, registers_obeyed, words_obeyed, outs_obeyed}
use Rattle.machine.proofs.Loads.{load_obeyed, give_obeyed}
use Rattle.machine.proofs.Forwards.{forward_obeyed}
use Rattle.machine.proofs.Promises.{Answers, holding, holding_whole}

-- A CASE FOR EACH COMMAND: its lemma, or that it isn't known
pub core_obeyed : (c : Command) → core c ≡ true → Obeyed c
unfolding core
core_obeyed (load is) h = load_obeyed is
core_obeyed (give vs) h = give_obeyed vs
core_obeyed (forward n) h = forward_obeyed n
core_obeyed (back n) h = absurd (false≢true h)
core_obeyed (run n) h = absurd (false≢true h)
core_obeyed (rerun n) h = absurd (false≢true h)
core_obeyed (changer a) h = absurd (false≢true h)
core_obeyed (add_break b) h = absurd (false≢true h)
core_obeyed (drop_break i) h = absurd (false≢true h)
core_obeyed where_now h = where_obeyed
core_obeyed registers h = registers_obeyed
core_obeyed (words_from a n) h = words_obeyed a n
core_obeyed (outs_from a n) h = outs_obeyed a n

-- THE INVARIANT, of the world
pub record Standing (left : ℕ) (w : Plain) (v : World) : Type 0 where
  pub slots : List Slot
  pub memory : List ℕ
  pub is : v ≡ world (target_of w slots) memory
  pub stands : Stands left w slots memory

pub standing_sized : (left : ℕ) (w : Plain) (v : World) → Standing left w v → length v.memory ≡ cells
standing_sized left w v h = ap (λ (x : World). length x.memory) h.is ∙ h.stands.lasts.sized

pub standing_less : (left : ℕ) (w : Plain) (v : World) → Standing (suc left) w v → Standing left w v
standing_less left w v h = record { slots = h.slots; memory = h.memory; is = h.is; stands = stands_less h.stands }

-- a command obeyed, as the promise has it
pub standing_answers : (plans : Plans) (agrees : Agrees plans) (c : Command) → Obeyed c → (left : ℕ) (w : Plain) (v : World) (text : List ℕ) → fits c ≡ true →
    ((m : List ℕ) → plans m (said text) ≡ begin m c) → Standing (suc left) w v → Ends plans most_turns (Answers Standing left w c) v (said text) [] 0
standing_answers plans agrees c o left w v text f q h =
    ends_as
    (λ (r : Ran) (x : Obeys left w c r). record {
      ends = x.ends;
      showed = x.showed;
      within = x.within;
      stands = record { slots = x.slots; memory = x.memory; is = x.here; stands = x.stands };
    })
    (subst (λ (y : World). Ends plans most_turns (Obeys left w c) y (said text) [] 0) (sym h.is)
    (o plans agrees left w h.slots h.memory text h.stands f (q h.memory)))

-- AT THE START all cells are 0
cell_first : (j : ℕ) → j < cells → cell (replicate cells 0) j ≡ 0
unfolding cell
cell_first j h = get_or-replicate cells j 0 0 h

row_first : (i n : ℕ) → i + n ≤ cells → row (replicate cells 0) i n ≡ replicate n 0
unfolding row
row_first i zero h = refl
row_first i (suc n) h =
    let a = cell_first i (omega (arith, h)) in
    let b = row_first (suc i) n (omega (arith, h)) in
    λ x. a x ∷ b x

gaps_first : Gaps (replicate 15 0)
unfolding Small
gaps_first = record { count = refl; small = omega arith }

pub standing_first : Standing 4294967296 first_plain (world (fresh_target []) (replicate cells 0))
unfolding state_at
standing_first =
    record {
      slots = [];
      memory = replicate cells 0;
      is = refl;
      stands = record {
        fair = record { running = runs_first [] []; soon = lit≤ tt; no_breaks = refl; no_ids = refl };
        lasts = record {
          sized = length-replicate {A = ℕ} cells 0;
          time_is = cell_first time (omega arith);
          fed_is = cell_first fed (omega arith);
          gaps = subst Gaps (sym (row_first 16 15 (omega arith))) gaps_first;
          kept = inl (refl, refl);
        };
      };
    }

-- THE CORE
own_agrees : Agrees planned
unfolding Agrees
own_agrees m ev p t = refl

core_begins : (text : List ℕ) (c : Command) → read_command text ≡ some c → core c ≡ true → (m : List ℕ) → planned m (said text) ≡ begin m c
unfolding planned begin_read
core_begins text c e k m = ap (begin_read m) e ∙ ap (λ (b : Bool). pick b (begin m c) (plan [] (refused 2))) k

core_no_command : (m text : List ℕ) → read_command text ≡ none → planned m (said text) ≡ plan [] (refused 1)
unfolding planned begin_read
core_no_command m text e = ap (begin_read m) e

core_not_known : (m text : List ℕ) (c : Command) → read_command text ≡ some c → core c ≡ false → planned m (said text) ≡ plan [] (refused 2)
unfolding planned begin_read
core_not_known m text c e k = ap (begin_read m) e ∙ ap (λ (b : Bool). pick b (begin m c) (plan [] (refused 2))) k

pub holding_core : Holding core own
holding_core =
    subst (Holding core) own_plans
    (holding planned core Standing standing_sized standing_less core_no_command core_not_known
    (λ c left w v text k f e h. standing_answers planned own_agrees c (core_obeyed c k) left w v text f (core_begins text c e k) h) standing_first)

pub whole_core : Whole core own
whole_core = holding_whole core own holding_core
