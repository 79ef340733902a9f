use Rattle.std.proofs.Common.{◌++◌, vec_items, ap, ◌∙◌, arith}
use Rattle.std.proofs.lemmas.List.{take_all}
use Rattle.command.proofs.Writes.{byte_more, pushed}
use Rattle.command.proofs.byte.Byte.put.Goals as goal

pub loop-byte-preserved : goal.loop-byte-preserved
loop-byte-preserved g c =
    let text = g.Self.Byte.text in
    let wrote = pushed text g.met.Self.Byte.joined (vec_items c.loop-byte.out) {new = vec_items c.push_reserved.new.self} c.push_reserved.ensures.items c.of.ensures in (
      byte_more (text (vec_items c.args.out.now)) c.args.bytes.now c.loop-byte.byte-index 0 (text (vec_items c.push_reserved.new.self)) c.loop-byte.invariant.0 c.loop-byte-test.true (omega arith) wrote,
      omega (arith, c.loop-byte.invariant.1, c.push_reserved.ensures.len, c.push_reserved.ensures.capacity),
    )

pub returns : goal.returns
returns g c =
    c.loop-byte.invariant.0 ∙ ap (λ l. g.Self.Byte.text (vec_items c.args.out.now) ++ l) (take_all c.loop-byte.byte-index c.args.bytes.now c.loop-byte-test.false)
