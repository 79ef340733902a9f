use Rattle.std.proofs.Common.{◌-◌, vec_items}
use Rattle.target.specs.Run.{Target, said, world, runs}
use Rattle.machine.specs.Engine.{own}
use Rattle.machine.specs.Promise.{most_turns}
use Rattle.driver.specs.Carried.{meant, Sound}
use Rattle.driver.specs.Screens.{showed}
use Rattle.driver.specs.Says.{Counted, OnTheWay}
use Rattle.driver.proofs.debugger.carry_out.Given as goal

abbrev pub invariant-loop : goal.invariant-loop
invariant-loop g l =
    Sound l.event 4096
    × ((t : Target) → g.P.Processor.like l.initial.p t → Counted t l.initial.memory →
    OnTheWay (most_turns - l.counter) (g.P.Processor.like l.p) l.memory (meant l.event l.text l.seen) (showed l.screen.shown (vec_items l.screen.text)) l.steps
    (runs most_turns own (world t l.initial.memory) (said l.initial.text) (showed l.initial.screen.shown (vec_items l.initial.screen.text)) 0))
