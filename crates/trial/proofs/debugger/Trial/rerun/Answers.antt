use Rattle.std.proofs.Common.{◌≡◌, ◌<◌, rules, sym, subst}
use Rattle.command.specs.Plain.{Plain, moved, holds_at}
use Rattle.trial.specs.Kept.{Kept}
use Rattle.trial.proofs.debugger.Trial.rerun.Goals as goal

pub returns : goal.returns
returns c w k =
    c.back_till.ensures.kept w w.breaks
    (λ e b t pos at says.
    let told : (v : Plain) → Kept says.shown.now v → 0 < v.now → b ≡ holds_at v v.breaks v.now = search rules in
    told (moved w t) (subst (λ z. Kept z (moved w t)) (sym says.shows) at) pos)
    k
