use Rattle.std.proofs.Common.{Ok, Err, ◌∙◌, arith}
use Rattle.target.specs.declared.answers.Fault.TheVariants.{NoMemory}
use Rattle.machine.specs.declared.acts.Told.TheVariants.{Goes}
use Rattle.driver.proofs.Serving.{passed_on, goes_few, goes_read, went}
use Rattle.driver.proofs.Seen.{rest_all, front_length}
use Rattle.driver.proofs.acts.go.Goals as goal

pub returns-in_err-breaks-clause-done : goal.returns-in_err-breaks-clause-done
returns-in_err-breaks-clause-done g c =
    let k = c.in_err-breaks.ensures in λ seen. passed_on _ _ _ _ seen (Goes c.args.n) _ k.0 c.from_residual.ensures.1 (goes_few _ _ _ _ seen c.args.n k.1 (λ t l. l))

pub returns-in_err-read_breaks-clause-done : goal.returns-in_err-read_breaks-clause-done
returns-in_err-read_breaks-clause-done g c =
    let k = c.in_ok-breaks.ensures in
    λ seen. goes_read _ _ _ _ seen c.args.n _ _ (rest_all 65535 c.args.row.now (omega arith)) _ (front_length c.in_ok-breaks.field-0 c.blanks-breaks.result (omega (arith, k.1)) ∙ k.0) c.in_err-read_breaks.ensures.1

pub returns-in-Ok-clause-done : goal.returns-in-Ok-clause-done
returns-in-Ok-clause-done g c =
    let k = c.in_ok-breaks.ensures in
    let r = c.in_ok-read_breaks.ensures in
    let f = c.in-Ok.ensures in
    λ seen.
    went _ _ _ _ seen c.args.n _ (rest_all 65535 c.args.row.now (omega arith)) _ (front_length c.in_ok-breaks.field-0 c.blanks-breaks.result (omega (arith, k.1)) ∙ k.0) c.read_breaks.new.breaks r.0 r.1
    (g.P.Processor.room c.args.p.now) (Ok c.in-Ok.came) f.goes f.wanting

pub returns-in-Err-NoMemory-clause-done : goal.returns-in-Err-NoMemory-clause-done
returns-in-Err-NoMemory-clause-done g c =
    let k = c.in_ok-breaks.ensures in
    let r = c.in_ok-read_breaks.ensures in
    let f = rw c.in-Err-NoMemory.field-0-is at c.in-Err-NoMemory.ensures in
    λ seen.
    went _ _ _ _ seen c.args.n _ (rest_all 65535 c.args.row.now (omega arith)) _ (front_length c.in_ok-breaks.field-0 c.blanks-breaks.result (omega (arith, k.1)) ∙ k.0) c.read_breaks.new.breaks r.0 r.1
    (g.P.Processor.room c.args.p.now) (Err NoMemory) f.goes f.wanting
