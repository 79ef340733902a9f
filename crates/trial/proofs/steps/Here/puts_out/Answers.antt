use Rattle.trial.proofs.Instructions.{puts_on}
use Rattle.trial.proofs.steps.Here.puts_out.Goals as goal

pub returns : goal.returns
returns c s ins l = rw (c.gone_to-next.ensures, c.reg.ensures) (puts_on c.args.self.now.moment.now s l ins c.args.k.number)
