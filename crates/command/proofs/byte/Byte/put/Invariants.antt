use Rattle.std.proofs.Common.{◌≡◌, ◌≤◌, ◌+◌, ◌++◌, length, take, vec_items, vec_len, vec_capacity}
use Rattle.command.proofs.byte.Byte.put.Given as goal

abbrev pub invariant-loop-byte : goal.invariant-loop-byte
invariant-loop-byte g l =
    let text = g.Self.Byte.text in
    (text (vec_items l.out) ≡ text (vec_items l.fn.out) ++ take l.byte-index l.bytes) × (vec_len l.out + length l.bytes ≤ vec_capacity l.out + l.byte-index)
