use Rattle.std.proofs.Common.{◌≡◌, ◌++◌, take, vec_items}
use Rattle.command.specs.Machine.{flat}
use Rattle.command.proofs.writing.put_each.Given as goal

abbrev pub invariant-loop-item : goal.invariant-loop-item
invariant-loop-item g l =
    let text = g.B.Byte.text in
    text (vec_items l.out) ≡ text (vec_items l.initial.out) ++ flat (λ x. g.T.Spelled.spelled (g.T.Spelled.meant x)) (take l.item-index l.items)
