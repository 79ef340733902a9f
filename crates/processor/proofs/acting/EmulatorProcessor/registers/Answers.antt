use Rattle.processor.proofs.Promises.{regs_promise}
use Rattle.processor.proofs.acting.EmulatorProcessor.registers.Goals as goal

pub returns : goal.returns
returns c = regs_promise c.args.self.now
