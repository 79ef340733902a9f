-- Acts as whoever carries them needs them: what they hold can be read back, and what comes in is counted. Assumes nothing: these are definitions.
use Rattle.std.specs.Prelude.{◌≡◌, ℕ, ◌+◌, ◌≤◌, true, List, length}
use Rattle.command.specs.Machine.{every}
use Rattle.command.specs.Plain.{an_instr, a_word, a_break}
use Rattle.target.specs.Run.{Engine, Event, Act, starts, feeds, goes, keeps, takes_up, looks_regs, looks_words, looks_outs, looks_where, shows, done, refused}
use Rattle.machine.specs.Engine.{cell, cells, fed}

-- by how much had come in before and has after it: programs, numbers and breaks can be read back from a row, no going on is longer than a stride, and
-- what comes in is what the memory says
abbrev pub FairAct : Act → (before after : ℕ) → Type 0
FairAct (starts is) f f₁ = (length is ≤ 4096) × (every an_instr is ≡ true) × (f₁ ≡ 0)
FairAct (feeds vs) f f₁ = (length vs ≤ 4096) × (every a_word vs ≡ true) × (f₁ ≡ f + length vs) × (f₁ ≤ 65536)
FairAct (goes n bs) f f₁ = (n ≤ 4096) × (every a_break bs ≡ true) × (f₁ ≡ f)
FairAct (keeps k) f f₁ = f₁ ≡ f
FairAct (takes_up k) f f₁ = f₁ ≡ f
FairAct looks_regs f f₁ = f₁ ≡ f
FairAct (looks_words a n) f f₁ = f₁ ≡ f
FairAct (looks_outs a n) f f₁ = f₁ ≡ f
FairAct looks_where f f₁ = f₁ ≡ f
FairAct (shows s) f f₁ = f₁ ≡ f
FairAct done f f₁ = f₁ ≡ f
FairAct (refused k) f f₁ = f₁ ≡ f

-- every act of an engine, on any memory of its length and whatever it is told
unfoldable pub Fair : Engine → Type 0
Fair e = (m : List ℕ) (ev : Event) → length m ≡ cells → FairAct (e.step m ev).act (cell m fed) (cell (e.step m ev).memory fed)
