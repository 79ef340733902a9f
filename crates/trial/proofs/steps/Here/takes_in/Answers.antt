use Rattle.trial.proofs.Instructions.{waits, takes_on}
use Rattle.trial.proofs.Refused.{error_is, stops_with}
use Rattle.std.proofs.Common.{arith}
use Rattle.trial.specs.declared.moments.Why.TheVariants.{Waits}
use Rattle.trial.proofs.steps.Here.takes_in.Goals as goal

pub returns-in_err-v : goal.returns-in_err-v
returns-in_err-v c s l =
    let none = c.in_err-v.ensures.ok_part in
    let h = rw none at c.get.ensures.lookup in
    stops_with c.from_residual.result Waits c.in_err-v.field-0.0 s _ (error_is c.get.result Waits _ none c.in_err-v.ensures.value) c.from_residual.ensures.1
    (waits c.args.self.now.moment.now s l c.args.self.now.fed.now c.args.k.number h.3)

pub returns : goal.returns
returns c s l =
    let h = rw c.in_ok-v.ensures.ok_part at c.get.ensures.lookup in
    rw (c.with_reg-next.ensures, h.4 (omega arith) 0) (takes_on c.args.self.now.moment.now s l c.args.self.now.fed.now c.args.k.number h.3.0)
