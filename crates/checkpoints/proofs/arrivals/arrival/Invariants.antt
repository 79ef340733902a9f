use Rattle.std.proofs.Common.{◌≡◌, ◌-◌}
use Rattle.checkpoints.specs.Arrivals.{arrival_from, arrival_slot}
use Rattle.checkpoints.proofs.arrivals.arrival.Given as goal

-- what is left gives the answer
abbrev pub invariant-loop-level : goal.invariant-loop-level
invariant-loop-level l = arrival_slot l.n l.i ≡ arrival_from (15 - l.level) l.level l.point l.left
