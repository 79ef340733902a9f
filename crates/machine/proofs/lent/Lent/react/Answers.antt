use Rattle.std.proofs.Common.{get_or, sym, ap, ◌∙◌}
use Rattle.machine.specs.Engine.{cell, planned, on_came, on_saw, on_next}
use Rattle.machine.specs.Phases.{phase_number, event_meant}
use Rattle.machine.proofs.Plans.{carries_at}
use Rattle.machine.proofs.ByPhase.{came_same, saw_same, next_same}
use Rattle.machine.proofs.lent.Lent.react.Goals as goal

pub returns-in-Came : goal.returns-in-Came
unfolding planned cell
returns-in-Came c =
    let m = c.args.self.memory.now in
    carries_at m _ c.args.self.row.now _ _
    (ap (λ e. planned m (event_meant e)) c.in-Came.is
    ∙ (sym (came_same (get_or m 0 0) m c.in-Came.came.by c.in-Came.came.hit c.in-Came.came.why) ∙ ap (λ p. on_came (phase_number p) m c.in-Came.came.by c.in-Came.came.hit c.in-Came.came.why) (sym c.from-phase.ensures)))
    c.on_came.ensures

pub returns-in-Saw : goal.returns-in-Saw
unfolding planned cell
returns-in-Saw c =
    let m = c.args.self.memory.now in
    let xs = c.in-Saw.seen.now in
    carries_at m _ c.args.self.row.now _ _
    (ap (λ e. planned m (event_meant e)) c.in-Saw.is ∙ (sym (saw_same (get_or m 0 0) m xs) ∙ ap (λ p. on_saw (phase_number p) m xs) (sym c.from-phase.ensures)))
    c.on_saw.ensures

pub returns-in-Next : goal.returns-in-Next
unfolding planned cell
returns-in-Next c =
    let m = c.args.self.memory.now in
    carries_at m _ c.args.self.row.now _ _
    (ap (λ e. planned m (event_meant e)) c.in-Next.is ∙ (sym (next_same (get_or m 0 0) m) ∙ ap (λ p. on_next (phase_number p) m) (sym c.from-phase.ensures)))
    c.on_next.ensures
