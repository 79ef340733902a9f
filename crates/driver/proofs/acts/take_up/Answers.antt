use Rattle.std.proofs.Common.{Ok, Err}
use Rattle.machine.specs.declared.acts.Told.TheVariants.{TakesUp}
use Rattle.driver.proofs.Serving.{at_exit, took}
use Rattle.driver.proofs.acts.take_up.Goals as goal

pub returns-in_err-take_up-clause-done : goal.returns-in_err-take_up-clause-done
returns-in_err-take_up-clause-done g c = λ seen. at_exit _ _ _ _ seen (TakesUp c.args.slot) c.from_residual.result c.from_residual.ensures.1 (took _ _ _ _ seen c.args.slot {A = Unit {0}} (Err c.in_err-take_up.field-0.0) c.in_err-take_up.ensures)

pub returns-clause-done : goal.returns-clause-done
returns-clause-done g c = λ seen. took _ _ _ _ seen c.args.slot {A = Unit {0}} (Ok tt) c.in_ok-take_up.ensures
