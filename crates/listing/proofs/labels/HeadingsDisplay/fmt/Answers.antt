use Rattle.std.proofs.Common.{ℕ, List, ◌++◌, is_ok, codes as chars, sym, ap, ◌∙◌, eq-eqb, ne_eqb}
use Rattle.listing.proofs.Writing.{left_as, left_less, left_same, left_none}
use Rattle.listing.proofs.Turns.{heading_at, heading_end}
use Rattle.listing.proofs.labels.HeadingsDisplay.fmt.Goals as goal
use Rattle.listing.proofs.labels.HeadingsDisplay.fmt.Goals.{then-from-self+in_ok-write, else-from-self}

pub loop-label-preserved : goal.loop-label-preserved
loop-label-preserved g c =
    let s = left_as g.W.Write.write_str_gives _ _ _ _ _ (heading_at c.args.self.now.labels.now c.loop-label.label-index c.args.self.now.place c.label-item.result c.loop-label-test.true c.label-item.is) c.loop-label.invariant in
    elim c.if-from-self.branch [
      | then-from-self+in_ok-write w ↦
          left_less g.W.Write.write_str_gives _ _ _ _ _ _ _ _ _ _ _ (eq-eqb _ _ (sym c.from.ensures ∙ w.if-from-self.true)) (ap (λ (t : List ℕ). t ++ chars ":\n") w.as_str-name.ensures.value)
          w.f-is (ap is_ok w.in_ok-write.was) w.write.ensures.writes s
      | else-from-self w ↦ left_same g.W.Write.write_str_gives _ _ _ _ _ _ _ (ne_eqb _ _ (λ e. w.if-from-self.false (c.from.ensures ∙ e))) w.f-is s
    ]

pub returns-clause-writes : goal.returns-clause-writes
returns-clause-writes g c =
    left_none g.W.Write.write_str_gives _ _ _
    (left_as g.W.Write.write_str_gives _ _ _ _ _ (heading_end c.args.self.now.labels.now c.loop-label.label-index c.args.self.now.place c.loop-label-test.false) c.loop-label.invariant)
