use Rattle.std.proofs.Common.{◌-◌, vec_items, sym, ap, ◌∙◌}
use Rattle.prompt.specs.Requests.{the_numbers, values}
use Rattle.prompt.proofs.Values.{values_over, values_slip, values_more}
use Rattle.prompt.proofs.requests.Numbers.to_vec.Goals as goal

pub returns-in_default : goal.returns-in_default
returns-in_default c =
    c.new.ensures.items
    ∙ sym (ap the_numbers (sym c.loop-cursor.invariant ∙ values_slip c.loop-cursor.most (vec_items c.loop-cursor.numbers) c.loop-cursor.cursor.rest.now (sym c.loop-cursor-test.ensures) c.in_default.ensures.value))

pub loop-cursor-preserved : goal.loop-cursor-preserved
loop-cursor-preserved c =
    ap (λ ns. values (c.loop-cursor.most - 1) ns c.value.new.self.rest.now) c.in_ok-push.ensures.items
    ∙ (sym (values_more c.loop-cursor.most (vec_items c.loop-cursor.numbers) c.loop-cursor.cursor.rest.now c.in-Ok.ensures.bound (sym c.loop-cursor-test.ensures) c.in-Ok.ensures.value)
    ∙ c.loop-cursor.invariant)

pub returns : goal.returns
returns c =
    sym (ap the_numbers (sym c.loop-cursor.invariant ∙ values_over c.loop-cursor.most (vec_items c.loop-cursor.numbers) c.loop-cursor.cursor.rest.now (sym c.loop-cursor-test.ensures)))
