-- The phases by their numbers, and what an event of the code means. Assumes nothing: these are definitions.
use Rattle.std.specs.Prelude.{ℕ, ◌==◌}
use Rattle.command.specs.Machine.{pick}
use Rattle.target.specs.Run as run
use Rattle.machine.specs.Engine as engine
use Rattle.machine.specs.declared.phase.Phase.{Phase}
use Rattle.machine.specs.declared.phase.Phase.TheVariants.{Idle, Ending, Beginning, GoingOn, Keeping, Placing, Telling}
use Rattle.machine.specs.declared.event.Event.{Event}
use Rattle.machine.specs.declared.event.Event.TheVariants.{Said, Came, Saw, Next}

abbrev pub phase_number : Phase → ℕ
phase_number Idle = engine.idle
phase_number Ending = engine.ending
phase_number Beginning = engine.beginning
phase_number GoingOn = engine.going_on
phase_number Keeping = engine.keeping
phase_number Placing = engine.placing
phase_number Telling = engine.telling

-- a number that is no phase's is Idle's too: both wait for a command
abbrev pub phase_of : ℕ → Phase
phase_of n = pick (n == 1) Ending (pick (n == 2) Beginning (pick (n == 3) GoingOn (pick (n == 4) Keeping (pick (n == 5) Placing (pick (n == 6) Telling Idle)))))

abbrev pub event_meant : Event → run.Event
event_meant (Said bs) = run.said bs.now
event_meant (Came c) = run.came c.by c.hit c.why
event_meant (Saw ns) = run.saw ns.now
event_meant Next = run.next
