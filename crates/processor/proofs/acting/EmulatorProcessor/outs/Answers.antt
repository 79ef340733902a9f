use Rattle.std.proofs.Common.{◌≡◌, ◌++◌, length, take, drop, vec_items, sym, refl, ap, ◌∙◌, subst, arith}
use Rattle.std.proofs.lemmas.List.{take_at, drop_at, length-take}
use Rattle.target.specs.Acts.{Does, TellsOuts}
use Rattle.target.specs.Run.{looks_outs, saw}
use Rattle.target.proofs.Doing.{refuses_outs}
use Rattle.processor.specs.Holding.{Held}
use Rattle.processor.specs.Telling.{told_outs}
use Rattle.processor.proofs.Faults.{refused}
use Rattle.processor.proofs.Promises.{outs_promise}
use Rattle.processor.proofs.acting.EmulatorProcessor.outs.Goals as goal

pub returns-in_err-few : goal.returns-in_err-few
returns-in_err-few c =
    let e = c.args.self.now in
    let h = c.in_err-few.ensures in
    refused c.from_residual.result _ _ (TellsOuts c.args.from c.args.seen.now c.args.seen.now (Held e)) h.0 c.from_residual.ensures.1
    (h.1, refl, refuses_outs (Held e) c.args.from (length c.args.seen.now) h.1)

pub returns : goal.returns
returns c =
    let e = c.args.self.now in
    let old = c.args.seen.now in
    let row = c.tell_outs.new.seen in
    let told = told_outs c.as_slice.result.now e.state.put c.args.from (length old) in
    let count = c.tell_outs.ensures.count in
    let r : row ≡ told ++ drop c.tell_outs.result old = c.tell_outs.ensures.row in
    let front : take c.tell_outs.result row ≡ told = ap (take c.tell_outs.result) r ∙ take_at told (drop c.tell_outs.result old) c.tell_outs.result (sym count) in
    let back : drop c.tell_outs.result row ≡ drop c.tell_outs.result old = ap (drop c.tell_outs.result) r ∙ drop_at told (drop c.tell_outs.result old) c.tell_outs.result (sym count) in
    let log : told_outs (vec_items e.state.log) e.state.put c.args.from (length old) ≡ take c.tell_outs.result row =
    ap (λ z. told_outs z e.state.put c.args.from (length old)) (sym c.as_slice.ensures.value) ∙ sym front in (
      omega arith,
      omega (arith, count, length-take (length old) (drop c.args.from (take e.state.put c.as_slice.result.now))),
      back,
      subst (λ z. Does (looks_outs c.args.from (length old)) (saw z) 0 (Held e) (Held e)) log (outs_promise e c.args.from (length old) (omega arith)),
    )
