use Rattle.std.proofs.Common.{◌≡◌, ◌+◌, ◌-◌, List}
use Rattle.std.specs.Fn.{FnReturnsAt}
use Rattle.command.specs.Plain.{Plain, Break, moved, back_till}
use Rattle.trial.specs.Kept.{Kept, Tells}
use Rattle.trial.proofs.debugger.Trial.back_till.Given as goal

-- from where it came to, going back by what is left comes to the same
abbrev pub invariant-loop : goal.invariant-loop
invariant-loop g l =
    (l.self.now + l.counter ≡ l.initial.self.now)
    × ((w : Plain) (bs : List Break) → Tells (FnReturnsAt g.F.Fn l.stops) w bs → Kept l.initial.self w
    → Kept l.self (moved w l.self.now) × (back_till w bs w.now l.most ≡ back_till w bs l.self.now (l.most - l.counter)))
