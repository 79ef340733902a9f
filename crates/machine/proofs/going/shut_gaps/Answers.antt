use Rattle.std.proofs.Common.{◌≡◌, ◌+◌, ◌-◌, replicate, arith, rules}
use Rattle.machine.proofs.Writes.{gaps_filled}
use Rattle.machine.proofs.going.shut_gaps.Goals as goal

pub returns : goal.returns
returns c =
    let k : 16 + c.args.levels - 16 ≡ c.args.levels = omega arith in
    let z : c.fill.new.self ≡ replicate c.args.levels 0 = search rules in
    gaps_filled c.args.memory.now c.fill.new.self c.args.levels _ (omega (arith, c.requires.few)) k z
