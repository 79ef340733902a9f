use Rattle.std.proofs.Common.{◌≡◌, ◌*◌, ◌/◌, ◌^◌, drop}
use Rattle.checkpoints.specs.Policy.{last_kept, last_from}
use Rattle.checkpoints.proofs.kept.last_kept.Given as goal

-- the levels so far say nothing
abbrev pub invariant-loop-number : goal.invariant-loop-number
invariant-loop-number l =
    let v = l.number in
    (l.spacing ≡ 4096 * 8 ^ v) × (last_kept l.gaps l.t l.y ≡ last_from v l.spacing (drop v l.gaps) (l.t / l.spacing) (l.y / l.spacing))
