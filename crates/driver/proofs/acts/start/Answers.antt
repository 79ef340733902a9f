use Rattle.std.proofs.Common.{Ok, Err, ◌∙◌}
use Rattle.machine.specs.declared.acts.Told.TheVariants.{Starts}
use Rattle.driver.proofs.Serving.{at_exit, starts_few, starts_read, started}
use Rattle.driver.proofs.Seen.{blank_length}
use Rattle.driver.proofs.acts.start.Goals as goal

pub returns-in_err-program-clause-done : goal.returns-in_err-program-clause-done
returns-in_err-program-clause-done g c = λ seen. starts_few _ _ _ _ seen c.args.count _ c.in_err-program.ensures.1

pub returns-in_err-read_back-clause-done : goal.returns-in_err-read_back-clause-done
returns-in_err-read_back-clause-done g c =
    let k = c.in_ok-program.ensures in λ seen. starts_read _ _ _ _ seen c.args.count _ _ (blank_length c.in_ok-program.field-0 4096 _ k.1 ∙ k.0) c.in_err-read_back.ensures.1

pub returns-in_err-begin-clause-done : goal.returns-in_err-begin-clause-done
returns-in_err-begin-clause-done g c =
    let k = c.in_ok-program.ensures in
    let r = c.in_ok-read_back.ensures in
    λ seen.
    at_exit _ _ _ _ seen (Starts c.args.count) _ c.from_residual-in_err-begin.ensures.1
    (started _ _ _ _ seen c.args.count _ (blank_length c.in_ok-program.field-0 4096 _ k.1 ∙ k.0) c.read_back.new.slots r.0 r.1 {A = Unit {0}} (Err c.in_err-begin.field-0.0) c.in_err-begin.ensures)

pub returns-clause-done : goal.returns-clause-done
returns-clause-done g c =
    let k = c.in_ok-program.ensures in
    let r = c.in_ok-read_back.ensures in
    λ seen. started _ _ _ _ seen c.args.count _ (blank_length c.in_ok-program.field-0 4096 _ k.1 ∙ k.0) c.read_back.new.slots r.0 r.1 {A = Unit {0}} (Ok tt) c.in_ok-begin.ensures
