-- When the emulator is like a target of the definitions, with its states kept. Assumes nothing: these are definitions.
use Rattle.std.specs.Prelude.{◌≡◌, ℕ, ◌-◌, ◌<◌, ◌≤◌, true, List, [], ◌∷◌, length, Some, None, vec_items, vec_capacity, Option, slice_index_or}
use Rattle.command.specs.Machine.{Instr, State as Model, running, word_at, is_running, state_at}
use Rattle.command.specs.Codes.{codes}
use Rattle.target.specs.Run.{Target, slot_of}
use Rattle.processor.specs.declared.pages.Pages.{Pages}
use Rattle.processor.specs.declared.kept.Kept.{Kept}
use Rattle.processor.specs.declared.emulator.Emulator.{Emulator}
use Rattle.processor.specs.Held.{held_word}
use Rattle.processor.specs.Like.{Base, Like}

abbrev pub base_of : Emulator → Base
base_of e = record { log = vec_items e.state.log; pages = e.state.words.pages }

-- a state as it is kept in a slot; what went out by then is the beginning of the log
pub record KeptLike (ps : Pages) (slot : ℕ) (q : Kept) (s : Model) : Type 0 where
  pub place : s.at ≡ q.at
  pub registers : s.regs ≡ q.regs
  pub words : (a : ℕ) → a < 65536 → word_at s.words a ≡ held_word ps slot a
  pub no_more : (a : ℕ) → 65536 ≤ a → word_at s.words a ≡ 0
  pub took : s.taken ≡ q.taken
  pub put : length s.out ≡ q.put
  pub runs : s.status ≡ running

-- a state of the run from the beginning, no further than some time
abbrev pub OnRun : List Instr → List ℕ → (far : ℕ) → Model → Type 0
OnRun is ins far s = (time : ℕ) × (time ≤ far) × (s ≡ state_at is ins time)

abbrev pub InSlot : List Instr → List ℕ → (far : ℕ) → Pages → (slot : ℕ) → Option Kept → List Model → Type 0
InSlot is ins far ps slot None ss = ss ≡ []
InSlot is ins far ps slot (Some q) ss = (s : Model) × (ss ≡ s ∷ []) × KeptLike ps slot q s × OnRun is ins far s

-- the state and all that are kept lie on one run, whose furthest time is known by the log: it has what went out by then
pub record HeldTill (far : ℕ) (e : Emulator) (t : Target) : Type 0 where
  pub program : t.program ≡ codes (vec_items e.program)
  pub fed : t.fed ≡ vec_items e.fed
  pub runs : is_running (state_at t.program t.fed far).status ≡ true
  pub log : vec_items e.state.log ≡ (state_at t.program t.fed far).out
  pub state : Like (base_of e) e.state t.state
  pub on_run : OnRun t.program t.fed far t.state
  pub slots : (k : ℕ) → k < 256 → InSlot t.program t.fed far e.state.words.pages k (slice_index_or (vec_items e.slots) k None) (slot_of t.slots k)
  pub no_more : (k : ℕ) → 256 ≤ k → slot_of t.slots k ≡ []

abbrev pub Held : Emulator → Target → Type 0
Held e t = (far : ℕ) × HeldTill far e t

-- how many numbers more can go out without asking for memory
abbrev pub room_of : Emulator → ℕ
room_of e = vec_capacity e.state.log - e.state.put
