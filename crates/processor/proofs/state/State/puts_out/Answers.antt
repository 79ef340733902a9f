use Rattle.processor.proofs.Instructions.{puts_on}
use Rattle.processor.proofs.state.State.puts_out.Goals as goal

pub returns-clause-after : goal.returns-clause-after
returns-clause-after c =
    λ b s ins l. puts_on b c.args.self.now c.args.next s l c.lay.new.log ins c.args.k.number (c.lay.ensures.laid s.out b.log l.like.log l.like.put)
