use Rattle.trial.proofs.Instructions.{goes_to, with_reg_on, copies_on}
use Rattle.std.proofs.Common.{refl}
use Rattle.command.specs.Machine.{does}
use Rattle.trial.proofs.steps.Here.does.Goals as goal

pub returns-in-Load : goal.returns-in-Load
unfolding does
returns-in-Load c s l held = rw (c.in-Load.is, c.with_reg.ensures) (with_reg_on c.args.self.now.moment.now s l c.in-Load.k.number c.in-Load.n)

pub returns-in-Copied : goal.returns-in-Copied
returns-in-Copied c s l held =
    rw (c.in-Copied.is, c.with_reg-in-Copied.ensures, c.reg.ensures) (copies_on c.args.self.now.moment.now s l c.args.self.now.fed.now c.in-Copied.k.number c.in-Copied.j.number)

pub returns-in-Jump : goal.returns-in-Jump
unfolding does
returns-in-Jump c s l held = rw (c.in-Jump.is, c.gone_to.ensures, c.from.ensures) (goes_to c.args.self.now.moment.now s l c.in-Jump.n)

pub returns-in-Halt : goal.returns-in-Halt
unfolding does
returns-in-Halt c s l held = rw c.in-Halt.is refl
