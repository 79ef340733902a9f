use Rattle.std.proofs.Common.{Ok, Err}
use Rattle.machine.specs.declared.acts.Told.TheVariants.{Keeps}
use Rattle.driver.proofs.Serving.{at_exit, kept}
use Rattle.driver.proofs.acts.keep.Goals as goal

pub returns-in_err-keep-clause-done : goal.returns-in_err-keep-clause-done
returns-in_err-keep-clause-done g c = λ seen. at_exit _ _ _ _ seen (Keeps c.args.slot) c.from_residual.result c.from_residual.ensures.1 (kept _ _ _ _ seen c.args.slot {A = Unit {0}} (Err c.in_err-keep.field-0.0) c.in_err-keep.ensures)

pub returns-clause-done : goal.returns-clause-done
returns-clause-done g c = λ seen. kept _ _ _ _ seen c.args.slot {A = Unit {0}} (Ok tt) c.in_ok-keep.ensures
