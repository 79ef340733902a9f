use Rattle.std.proofs.Common.{◌≡◌, length, take, ◌∙◌, arith}
use Rattle.std.proofs.lemmas.List.{take-append-le}
use Rattle.machine.specs.declared.acts.Told.TheVariants.{Looks}
use Rattle.machine.specs.declared.acts.Look.TheVariants.{Outs}
use Rattle.driver.proofs.Serving.{passed_on, saw_outs, outs_few}
use Rattle.driver.proofs.Seen.{front_length}
use Rattle.driver.proofs.acts.look_at_outs.Goals as goal

pub returns-in_err-count-clause-done : goal.returns-in_err-count-clause-done
returns-in_err-count-clause-done g c = let k = c.in_err-count.ensures in passed_on _ _ _ _ _ (Looks Outs) _ k.0 c.from_residual.ensures.1 (outs_few _ _ _ _ _ k.1 (λ t l. l))

pub returns-clause-done : goal.returns-clause-done
returns-clause-done g c =
    let n = c.in_ok-count.count in
    let found = c.in_ok-found.found in
    let k = c.in_ok-count.ensures in
    let h = c.in_ok-found.ensures in
    let l : length (take n c.args.seen.now) ≡ n = front_length n c.args.seen.now (omega (arith, k.1)) in
    saw_outs _ _ _ _ _ _ found (take found c.outs.new.seen) (l ∙ k.0) (take-append-le found c.outs.new.seen _ (omega (arith, h.1, c.outs.auto.seen))) h.3
