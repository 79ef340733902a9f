use Rattle.std.proofs.Common.{◌-◌, ◌≤◌}
use Rattle.session.specs.Does.{Went, Later}
use Rattle.session.proofs.debugger.Session.forward.Given as goal

-- all the steps so far were gone
abbrev pub invariant-loop-left : goal.invariant-loop-left
invariant-loop-left g l =
    (l.left ≤ l.n) × Later l.initial.self.time (l.n - l.left) l.self.time
    × Went (l.n - l.left) (g.P.Processor.like l.initial.self.processor) (g.P.Processor.like l.self.processor) (l.n - l.left)

abbrev pub decreases-loop-left : goal.decreases-loop-left
decreases-loop-left g l = l.left
