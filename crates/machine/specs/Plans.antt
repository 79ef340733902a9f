-- Engines that go by plans, and those of them that hand on to this crate's engine whatever its phases wait for. Assumes nothing: these are definitions.
use Rattle.std.specs.Prelude.{◌≡◌, ℕ, Bool, true, false, List, length, replicate, ◌==◌, nat_lt}
use Rattle.target.specs.Run.{Engine, Event, said, came, saw, next}
use Rattle.machine.specs.Engine.{Plan, planned, carried, cell, cells, phase}

abbrev pub Plans : Type 0
Plans = List ℕ → Event → Plan

unfoldable pub engine_of : Plans → Engine
engine_of plans = record { start = replicate cells 0; step = λ m ev. carried (length m == cells) (plans m ev) m }

-- the phases of this crate are numbered below this
abbrev pub phases : ℕ
phases = 7

-- anything but a command
abbrev pub told : Event → Bool
told (said text) = false
told (came by hit why) = true
told (saw xs) = true
told next = true

-- in a phase of this crate, it plans as this crate does
unfoldable pub Agrees : Plans → Type 0
Agrees plans = (m : List ℕ) (ev : Event) → nat_lt (cell m phase) phases ≡ true → told ev ≡ true → plans m ev ≡ planned m ev
