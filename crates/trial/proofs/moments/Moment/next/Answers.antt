use Rattle.trial.proofs.Instructions.{no_instr, steps_on}
use Rattle.trial.proofs.Refused.{error_is, stops_with}
use Rattle.std.proofs.Common.{sym, ap, ◌∙◌, subst}
use Rattle.command.specs.Codes.{code}
use Rattle.command.specs.Machine.{does}
use Rattle.trial.specs.Moments.{Next}
use Rattle.trial.specs.declared.moments.Why.TheVariants.{NoInstr}
use Rattle.trial.proofs.moments.Moment.next.Goals as goal

pub returns-in_err-instr : goal.returns-in_err-instr
returns-in_err-instr c s l held =
    let none = c.in_err-instr.ensures.ok_part in
    let h = rw none at c.get.ensures.lookup in
    stops_with c.from_residual.result NoInstr _ s _ (error_is c.get.result NoInstr _ none c.in_err-instr.ensures.value) c.from_residual.ensures.1
    (no_instr c.args.self.now s l c.args.program.now c.args.fed.now h.3)

pub returns : goal.returns
returns c s l held =
    let h = rw c.in_ok-instr.ensures.ok_part at c.get.ensures.lookup in
    let e = steps_on c.args.self.now s l c.args.program.now c.args.fed.now _ h.3.0 in
    subst (Next c.does.result s) (sym (e ∙ ap (λ z. does s c.args.fed.now (code z)) (sym h.1))) (c.does.ensures s l held)
