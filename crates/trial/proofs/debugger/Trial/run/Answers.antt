use Rattle.std.proofs.Common.{◌≡◌, ◌<◌, rules, sym, subst}
use Rattle.command.specs.Plain.{Plain, moved, holds_at}
use Rattle.trial.specs.Kept.{Kept}
use Rattle.std.proofs.lemmas.Result.{on_ok_weaker}
use Rattle.trial.proofs.debugger.Trial.run.Goals as goal

pub returns : goal.returns
returns c =
    on_ok_weaker c.on_till.result
    (λ h w k.
    h w w.breaks
    (λ e b t pos at says.
    let told : (v : Plain) → Kept says.shown.now v → 0 < v.now → b ≡ holds_at v v.breaks v.now = search rules in
    told (moved w t) (subst (λ z. Kept z (moved w t)) (sym says.shows) at) pos)
    k)
    c.on_till.ensures
