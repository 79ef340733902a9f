use Rattle.std.proofs.Common.{◌≡◌, ◌-◌, List}
use Rattle.std.specs.Fn.{FnReturnsAt}
use Rattle.command.specs.Plain.{Plain, Break, moved, on_till}
use Rattle.trial.specs.Kept.{Kept, Tells}
use Rattle.trial.proofs.debugger.Trial.on_till.Given as goal

-- from where it came to, going on by what is left comes to the same
abbrev pub invariant-loop : goal.invariant-loop
invariant-loop g l =
    (w : Plain) (bs : List Break) → Tells (FnReturnsAt g.F.Fn l.stops) w bs → Kept l.initial.self w
    → Kept l.self (moved w l.self.now) × (on_till w bs w.now l.most ≡ on_till w bs l.self.now (l.most - l.counter))
