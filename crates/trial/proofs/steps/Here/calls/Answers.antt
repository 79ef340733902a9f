use Rattle.trial.proofs.Instructions.{no_call, calls_on}
use Rattle.trial.proofs.Refused.{error_is, stops_with}
use Rattle.std.proofs.Common.{◌≡◌, ◌<◌, ◌≤◌, get_or, vec_items, ap, ◌∙◌, inl, inr, arith}
use Rattle.trial.specs.declared.moments.Why.TheVariants.{NoWord}
use Rattle.trial.proofs.steps.Here.calls.Goals as goal

pub returns-in_err-top : goal.returns-in_err-top
returns-in_err-top c s ins l held =
    let none = c.in_err-top.ensures.ok_part in
    let n = rw none at c.checked_sub.ensures in
    let z : get_or c.args.self.now.moment.now.regs 15 0 ≡ 0 = omega (arith, n) in
    stops_with c.from_residual.result NoWord _ s _ (error_is c.checked_sub.result NoWord _ none c.in_err-top.ensures.value) c.from_residual.ensures.1
    (no_call c.args.self.now.moment.now s l ins c.args.n (inl z))

pub returns-in_err-place : goal.returns-in_err-place
returns-in_err-place c s ins l held =
    let q = rw c.in_ok-top.ensures.ok_part at c.checked_sub.ensures in
    let high : 65536 < get_or c.args.self.now.moment.now.regs 15 0 = omega (arith, q, c.from.ensures, c.in_err-place.ensures.1) in
    stops_with c.from_residual-in_err-place.result NoWord _ s _ c.in_err-place.ensures.0 c.from_residual-in_err-place.ensures.1 (no_call c.args.self.now.moment.now s l ins c.args.n (inr high))

pub returns : goal.returns
returns c s ins l held =
    let q = rw c.in_ok-top.ensures.ok_part at c.checked_sub.ensures in
    let p = rw (c.from.ensures, q.1) at c.in_ok-place.ensures in
    let high : get_or c.args.self.now.moment.now.regs 15 0 ≤ 65536 = omega (arith, q, p.1) in
    rw (c.gone_to-next.ensures, c.from-2.ensures, p.0, q.1)
    (calls_on c.args.self.now.moment.now s l _ held ins c.args.n c.get.result q.0 high (c.get.ensures ∙ ap (λ z. get_or (vec_items c.args.self.now.memory.now.words) z 0) p.0))
