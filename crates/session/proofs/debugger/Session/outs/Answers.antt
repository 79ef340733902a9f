use Rattle.std.proofs.Common.{◌≡◌, ℕ, length, take, drop, sym, ap, ◌∙◌, arith}
use Rattle.std.proofs.lemmas.List.{take_at}
use Rattle.session.proofs.Done.{outs_by}
use Rattle.session.proofs.debugger.Session.outs.Goals as goal

pub returns : goal.returns
returns g c t h =
    let like = g.P.Processor.like c.args.self.now.processor in
    let row = c.as_mut_slice.result.now in
    let seen = c.outs.new.seen in
    let known = c.in_ok-shown.ensures in
    let l : length seen ≡ c.in_ok-seen.seen.len = omega (arith, c.outs.auto.seen, c.as_mut_slice.ensures.len) in
    let n : length row ≡ c.args.count = omega (arith, c.as_mut_slice.ensures.len, c.in_ok-seen.ensures.len) in
    c.truncate.ensures.items
    ∙ (ap (take c.in_ok-shown.shown) (take_at seen (drop (length seen) c.in_ok-seen.seen.items) c.in_ok-seen.seen.len l)
    ∙ (sym (outs_by like c.args.from (length row) (take c.in_ok-shown.shown seen) known.0 known.3 t h) ∙ ap (λ (k : ℕ). take k (drop c.args.from t.state.out)) n))
