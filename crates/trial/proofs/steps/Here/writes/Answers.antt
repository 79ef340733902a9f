use Rattle.trial.proofs.Instructions.{no_write, writes_on}
use Rattle.trial.proofs.Refused.{stops_with}
use Rattle.std.proofs.Common.{get_or, vec_items, ap, ◌∙◌}
use Rattle.trial.specs.declared.moments.Why.TheVariants.{NoWord}
use Rattle.trial.proofs.steps.Here.writes.Goals as goal

pub returns-in_err-place : goal.returns-in_err-place
returns-in_err-place c s ins l held =
    stops_with c.from_residual.result NoWord _ s _ c.in_err-place.ensures.0 c.from_residual.ensures.1
    (no_write c.args.self.now.moment.now s l ins c.args.k.number c.args.base.number c.args.n c.in_err-place.ensures.1)

pub returns : goal.returns
returns c s ins l held =
    let p = c.in_ok-place.ensures in
    rw (c.gone_to-next.ensures, c.reg.ensures, p.0)
    (writes_on c.args.self.now.moment.now s l _ held ins c.args.k.number c.args.base.number c.args.n c.get.result (rw p.0 at p.1) (c.get.ensures ∙ ap (λ z. get_or (vec_items c.args.self.now.memory.now.words) z 0) p.0))
