use Rattle.trial.proofs.Instructions.{jumps}
use Rattle.std.proofs.Common.{refl}
use Rattle.command.specs.Codes.{comparison_number}
use Rattle.trial.proofs.steps.Here.jumps_if.Goals as goal

pub returns-then-compares : goal.returns-then-compares
returns-then-compares c s ins l =
    rw c.gone_to.ensures
    (jumps c.args.self.now.moment.now s l ins (comparison_number c.args.comparison) c.args.k.number c.args.j.number c.args.n c.from.result c.compares.result
    (rw (c.reg.ensures, c.reg-2.ensures) at c.compares.ensures) (rw c.if-compares.true c.from.ensures))

pub returns-else-compares : goal.returns-else-compares
returns-else-compares c s ins l =
    rw c.gone_to-else-compares.ensures
    (jumps c.args.self.now.moment.now s l ins (comparison_number c.args.comparison) c.args.k.number c.args.j.number c.args.n _ c.compares.result
    (rw (c.reg.ensures, c.reg-2.ensures) at c.compares.ensures) (rw c.if-compares.false refl))
