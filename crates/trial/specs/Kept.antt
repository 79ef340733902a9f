-- When the debugger holds a plain one: every moment that it keeps is that of the state at its time. Assumes nothing: these are definitions.
use Rattle.std.specs.Prelude.{◌≡◌, ℕ, suc, ◌<◌, Bool, List, [], length, vec_items, slice_index_or}
use Rattle.std.specs.Option.{option_to_list}
use Rattle.command.specs.Machine.{each, Instr, state_at}
use Rattle.command.specs.Plain.{Plain, Break, at_time, moved, holds_at}
use Rattle.command.specs.Codes.{codes}
use Rattle.command.specs.Breaks.{tests_of}
use Rattle.command.specs.declared.code.Instr.{Instr as Code}
use Rattle.trial.specs.declared.moments.Moment.{Moment}
use Rattle.trial.specs.declared.debugger.Numbered.{Numbered}
use Rattle.trial.specs.declared.debugger.Trial.{Trial}
use Rattle.trial.specs.Moments.{Words, Came, first_moment}

-- the first moment is the beginning, and a step comes to each other
pub record History (is : List Instr) (ins : List ℕ) (past : List Moment) : Type 0 where
  pub first : (d : Moment) → slice_index_or past 0 d ≡ first_moment
  pub steps : (t : ℕ) (d : Moment) → suc t < length past → Came (slice_index_or past (suc t) d) (state_at is ins t) (state_at is ins (suc t))

abbrev pub break_numbered : Numbered → Break
break_numbered b = record { id = b.number; place = option_to_list b.stop.place; tests = tests_of b.stop; changed = option_to_list b.stop.changed }

pub record Holds (is : List Code) (fed : List ℕ) (past : List Moment) (t : ℕ) (ws : List ℕ) (bs : List Numbered) (n : ℕ) (w : Plain) : Type 0 where
  pub program : w.program ≡ codes is
  pub ins : w.ins ≡ fed
  pub time : w.now ≡ t
  pub breaks : w.breaks ≡ each break_numbered bs
  pub next : w.next ≡ n
  pub known : t < length past
  pub history : History w.program w.ins past
  pub words : Words ws (at_time w t)

abbrev pub Kept : Trial → Plain → Type 0
Kept e w =
    Holds (vec_items e.program) (vec_items e.fed) (vec_items e.past) e.now (vec_items e.memory.words) (vec_items e.breaks) e.next w

-- a debugger that nothing was told yet
abbrev pub fresh : Plain
fresh = record { program = []; ins = []; now = 0; breaks = []; next = 1 }

-- what a test of the debugger, after each step, says of some breaks
abbrev pub Tells : (Trial → Bool → Type 0) → Plain → List Break → Type 0
Tells says w bs = (e : Trial) (b : Bool) (t : ℕ) → 0 < t → Kept e (moved w t) → says e b → b ≡ holds_at w bs t
