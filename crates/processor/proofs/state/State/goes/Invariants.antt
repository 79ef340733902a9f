use Rattle.std.proofs.Common.{◌+◌, ◌-◌, ◌≤◌, vec_capacity}
use Rattle.command.specs.Breaks.{breaks_of}
use Rattle.command.specs.Codes.{codes}
use Rattle.command.specs.Machine.{State as Model}
use Rattle.processor.specs.Like.{Base, Like}
use Rattle.processor.proofs.Goes.{SoFar}
use Rattle.processor.proofs.state.State.goes.Given as goal

-- there is room for what is left to go, and that, from the state that it came to, makes up what was to be gone
abbrev pub invariant-loop-by : goal.invariant-loop-by
invariant-loop-by l =
    (l.self.put + (l.n - l.by) ≤ vec_capacity l.self.log) × (vec_capacity l.initial.self.log ≤ vec_capacity l.self.log)
    × ((b : Base) (s : Model) → Like b l.initial.self s → SoFar (codes l.program) l.fed (breaks_of l.breaks) b l.self l.n l.by s)
