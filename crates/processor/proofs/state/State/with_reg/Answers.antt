use Rattle.processor.proofs.Instructions.{with_reg_on}
use Rattle.processor.proofs.state.State.with_reg.Goals as goal

pub returns-clause-on : goal.returns-clause-on
returns-clause-on c =
    λ b s l. with_reg_on b c.args.self.now c.args.next s l c.args.k.number c.args.v
