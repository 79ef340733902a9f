use Rattle.std.proofs.Common.{◌++◌, vec_items, ap, ◌∙◌}
use Rattle.std.proofs.lemmas.List.{take_all}
use Rattle.command.specs.Machine.{flat}
use Rattle.command.proofs.Writes.{list_more, flat_each}
use Rattle.command.proofs.writing.put_each.Goals as goal

pub loop-item-preserved : goal.loop-item-preserved
loop-item-preserved g c =
    let text = g.B.Byte.text in
    list_more (text (vec_items c.args.out.now)) (λ (x : g.row.T.Denot). g.T.Spelled.spelled (g.T.Spelled.meant x)) c.args.items.now c.loop-item.item-index c.item-item.result c.item-item.result (text (vec_items c.put.new.out)) c.loop-item.invariant c.loop-item-test.true c.item-item.is
    c.in_ok-put.ensures

pub returns : goal.returns
returns g c =
    let t = g.B.Byte.text (vec_items c.args.out.now) in
    let s = g.T.Spelled.spelled in
    let m = g.T.Spelled.meant in
    c.loop-item.invariant
    ∙ (ap (λ l. t ++ flat (λ (x : g.row.T.Denot). s (m x)) l) (take_all c.loop-item.item-index c.args.items.now c.loop-item-test.false) ∙ ap (λ l. t ++ l) (flat_each s m c.args.items.now))
