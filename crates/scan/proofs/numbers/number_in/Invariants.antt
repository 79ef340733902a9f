use Rattle.std.proofs.Common.{◌≡◌, ◌≤◌, drop}
use Rattle.scan.specs.Numbers.{digits}
use Rattle.scan.proofs.numbers.number_in.Given as goal

abbrev pub invariant-loop-b : goal.invariant-loop-b
invariant-loop-b g l = (digits g.row.BASE l.most l.n (drop l.b-index l.text) ≡ digits g.row.BASE l.most 0 l.text) × (l.n ≤ l.most)
