use Rattle.trial.proofs.Instructions.{reckons_on, by_zero}
use Rattle.trial.proofs.Refused.{error_is, stops_with}
use Rattle.command.specs.Codes.{op_number}
use Rattle.trial.specs.declared.moments.Why.TheVariants.{ByZero}
use Rattle.trial.proofs.steps.Here.reckons.Goals as goal

pub returns-in_err-v : goal.returns-in_err-v
returns-in_err-v c s ins l =
    let none = c.in_err-v.ensures.ok_part in
    stops_with c.from_residual.result ByZero _ s _ (error_is c.reckoned.result ByZero _ none c.in_err-v.ensures.value) c.from_residual.ensures.1
    (by_zero c.args.self.now.moment.now s l ins (op_number c.args.op) c.args.k.number c.args.j.number (rw (none, c.reg.ensures, c.reg-2.ensures) at c.reckoned.ensures))

pub returns : goal.returns
returns c s ins l =
    rw c.with_reg.ensures
    (reckons_on c.args.self.now.moment.now s l ins (op_number c.args.op) c.args.k.number c.args.j.number _ (rw (c.in_ok-v.ensures.ok_part, c.reg.ensures, c.reg-2.ensures) at c.reckoned.ensures))
