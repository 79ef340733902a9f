use Rattle.std.proofs.Common.{◌≡◌, ◌++◌, take, drop}
use Rattle.processor.proofs.telling.tell_outs.Given as goal

abbrev pub invariant-loop-i : goal.invariant-loop-i
invariant-loop-i l = l.seen ≡ take l.i l.told ++ drop l.i l.initial.seen
