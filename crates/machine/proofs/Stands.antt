-- What holds between commands, and what a command has to come to. Assumes nothing.
use Rattle.std.proofs.Common.{◌≡◌, ℕ, suc, ◌+◌, ◌*◌, ◌≤◌, Bool, true, false, ◌&&◌, eqb, ltb, leb, List, [], ◌∷◌, length, sym, refl, ap, ◌∙◌, subst, arith}
use Rattle.std.proofs.lemmas.Bool.{and_from, le-leb, lt-ltb}
use Rattle.command.specs.Machine.{or}
use Rattle.command.specs.Plain.{Command, fits, Plain, Turn, turn, may_step, billion}
use Rattle.command.proofs.PastStays.{Runs_at}
use Rattle.target.specs.Run.{Event, said, next, Slot, Target, Ran, world, ran, done}
use Rattle.checkpoints.specs.Statements.{Gaps}
use Rattle.machine.specs.Engine.{puts, written, planned, begin, on_next, cell, cells, phase, time, fed, idle, ending}
use Rattle.machine.specs.Promise.{most_turns}
use Rattle.machine.specs.Plans.{Plans, Agrees, phases, told}
use Rattle.machine.proofs.Memory.{Alike}
use Rattle.machine.proofs.Runs.{Ends, acts}
use Rattle.machine.proofs.GapCells.{gaps_of, row_same}
use Rattle.machine.proofs.Kept.{target_of, Kept}

-- LASTING CELLS keep what they hold from command to command; the others belong to the command under way
abbrev pub a_gap : ℕ → Bool
a_gap j = leb 16 j && ltb j 31

abbrev pub lasting : ℕ → Bool
lasting j = or (eqb j time) (or (eqb j fed) (a_gap j))

-- those of them that a change of the time alone leaves
abbrev pub untimed : ℕ → Bool
untimed j = or (eqb j fed) (a_gap j)

-- THE INVARIANT, with so many commands to come: of the plain debugger alone; of the processor's slots and the memory against it
pub record Fair (left : ℕ) (w : Plain) : Type 0 where
  pub running : Runs_at w w.now
  pub soon : w.now + left * billion ≤ 4294967296 * billion
  pub no_breaks : w.breaks ≡ []
  pub no_ids : w.next ≡ 1

pub record Lasts (w : Plain) (sl : List Slot) (m : List ℕ) : Type 0 where
  pub sized : length m ≡ cells
  pub time_is : cell m time ≡ w.now
  pub fed_is : cell m fed ≡ length w.ins
  pub gaps : Gaps (gaps_of m)
  pub kept : Kept w sl (gaps_of m)

pub record Stands (left : ℕ) (w : Plain) (sl : List Slot) (m : List ℕ) : Type 0 where
  pub fair : Fair left w
  pub lasts : Lasts w sl m

-- what a run has to come to, for a turn of the plain debugger and the steps granted
pub record Comes (left grant : ℕ) (u : Turn) (r : Ran) : Type 0 where
  pub ends : r.end ≡ u.reply
  pub showed : r.showed ≡ u.shows
  pub within : r.steps ≤ grant
  pub slots : List Slot
  pub memory : List ℕ
  pub here : r.here ≡ world (target_of u.next slots) memory
  pub stands : Stands left u.next slots memory

abbrev pub Obeys : ℕ → Plain → Command → Ran → Type 0
Obeys left w c r = Comes left (may_step w c (turn w c)) (turn w c) r

-- THE LEMMA OF A COMMAND, of every engine that begins it as this crate does and hands on what follows
abbrev pub Obeyed : Command → Type 0
Obeyed c =
    (plans : Plans) → Agrees plans → (left : ℕ) (w : Plain) (sl : List Slot) (m : List ℕ) (text : List ℕ) → Stands (suc left) w sl m → fits c ≡ true →
    plans m (said text) ≡ begin m c → Ends plans most_turns (Obeys left w c) (world (target_of w sl) m) (said text) [] 0

-- FRAMES: memories alike will do
pub gaps_alike : {these : ℕ → Bool} {m m₁ : List ℕ} → ((j : ℕ) → a_gap j ≡ true → these j ≡ true) → Alike these m m₁ → gaps_of m₁ ≡ gaps_of m
gaps_alike {these} {m} {m₁} f a =
    row_same m m₁ 16 15 (λ j lo hi. a.same j (f j (and_from _ _ (le-leb 16 j lo) (lt-ltb j 31 hi))))

or_last : (a b : Bool) → b ≡ true → or a b ≡ true
or_last true b e = refl
or_last false b e = e

pub gap_untimed : (j : ℕ) → a_gap j ≡ true → untimed j ≡ true
gap_untimed j h = or_last _ _ h

pub gap_lasting : (j : ℕ) → a_gap j ≡ true → lasting j ≡ true
gap_lasting j h = or_last _ _ (gap_untimed j h)

pub lasts_alike : {w : Plain} {sl : List Slot} {m m₁ : List ℕ} → Lasts w sl m → Alike lasting m m₁ → Lasts w sl m₁
lasts_alike {w} {sl} h a =
    let g = sym (gaps_alike gap_lasting a) in
    record {
      sized = a.size ∙ h.sized;
      time_is = a.same time refl ∙ h.time_is;
      fed_is = a.same fed refl ∙ h.fed_is;
      gaps = subst Gaps g h.gaps;
      kept = subst (λ (s : List ℕ). Kept w sl s) g h.kept;
    }

pub fair_less : {left : ℕ} {w : Plain} → Fair (suc left) w → Fair left w
fair_less {left} {w} h = record { running = h.running; soon = omega (arith, h.soon); no_breaks = h.no_breaks; no_ids = h.no_ids }

pub stands_less : {left : ℕ} {w : Plain} {sl : List Slot} {m : List ℕ} → Stands (suc left) w sl m → Stands left w sl m
stands_less h = record { fair = fair_less h.fair; lasts = h.lasts }

-- in a phase of this crate the plan is this crate's
pub in_phase : (plans : Plans) (m : List ℕ) (ev : Event) (p : ℕ) → Agrees plans → ltb p phases ≡ true → told ev ≡ true → cell m phase ≡ p → plans m ev ≡ planned m ev
unfolding Agrees
in_phase plans m ev p agrees h t e = agrees m ev (ap (λ (x : ℕ). ltb x phases) e ∙ h) t

-- THE END: at the phase `ending`, being told to go on, the command is done
pub ended : {plans : Plans} {P : Ran → Type 0} {t : Target} {m : List ℕ} {ss : List (List ℕ)} {k : ℕ} → Agrees plans →
    length m ≡ cells → cell m phase ≡ ending → P (ran (world t (written (puts phase idle ∷ []) m)) ss k 0) → Ends plans 1 P (world t m) next ss k
unfolding planned on_next
ended {plans} {m = m} g e q h =
    acts {b = 0} {ws = puts phase idle ∷ []} {a = done} e (in_phase plans m next ending g refl refl q ∙ ap (λ (p : ℕ). on_next p m) q) h
