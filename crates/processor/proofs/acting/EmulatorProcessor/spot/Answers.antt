use Rattle.std.proofs.Common.{ap}
use Rattle.command.specs.Codes.{codes}
use Rattle.processor.proofs.Promises.{spot_promise}
use Rattle.processor.proofs.acting.EmulatorProcessor.spot.Goals as goal

pub returns : goal.returns
returns c =
    spot_promise c.args.self.now (codes c.as_slice.result.now) c.as_slice-2.result.now c.why_not-why.result (ap codes c.as_slice.ensures.value) c.as_slice-2.ensures.value c.why_not-why.ensures
