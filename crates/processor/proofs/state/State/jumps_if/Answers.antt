use Rattle.command.specs.Codes.{comparison_number}
use Rattle.processor.proofs.Instructions.{jumps}
use Rattle.processor.proofs.state.State.jumps_if.Goals as goal

pub returns-then-compare-clause-after : goal.returns-then-compare-clause-after
returns-then-compare-clause-after c =
    λ b s ins l.
    jumps b c.args.self.now c.args.next s l ins (comparison_number c.args.comparison) c.args.k.number c.args.j.number c.args.n c.from-self.result c.compare.result c.compare.ensures
    (simp c.if-compare.true c.from-self.ensures)

pub returns-else-compare-clause-after : goal.returns-else-compare-clause-after
returns-else-compare-clause-after c =
    λ b s ins l.
    jumps b c.args.self.now c.args.next s l ins (comparison_number c.args.comparison) c.args.k.number c.args.j.number c.args.n c.args.next c.compare.result c.compare.ensures
    (simp c.if-compare.false)
