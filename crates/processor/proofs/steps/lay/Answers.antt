use Rattle.std.proofs.Common.{◌<◌, ◌≤◌, cond, [], ◌∷◌, ◌++◌, length, vec_items, vec_len, vec_capacity, ap, ◌∙◌, arith}
use Rattle.processor.proofs.Laying.{laid_set, laid_push}
use Rattle.processor.proofs.steps.lay.Goals as goal

pub returns-then-put-len : goal.returns-then-put-len
returns-then-put-len c =
    let h : c.args.put < length (vec_items c.args.log.now) = omega arith in
    record {
      laid = λ out base e f. laid_set out base (vec_items c.args.log.now) c.args.put c.args.v e f h;
      room = omega arith;
    }

pub returns-else-put-len : goal.returns-else-put-len
returns-else-put-len c =
    let h : length (vec_items c.args.log.now) ≤ c.args.put = omega arith in
    let room : vec_len c.args.log.now < vec_capacity c.args.log.now = omega arith in
    let ok = c.push.ensures.succeeds room in
    let pushed = c.push.ensures.items ∙ ap (λ z. cond z (vec_items c.args.log.now ++ c.args.v ∷ []) (vec_items c.args.log.now)) ok in
    record {
      laid = λ out base e f. pushed ∙ laid_push out base (vec_items c.args.log.now) c.args.put c.args.v e f h;
      room = c.push.ensures.capacity;
    }
