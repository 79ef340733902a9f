use Rattle.command.specs.Machine.{does, reckon}
use Rattle.processor.specs.Like.{After}
use Rattle.processor.proofs.Faults.{refused}
use Rattle.command.specs.Codes.{op_number}
use Rattle.processor.proofs.Instructions.{reckons_on, by_zero}
use Rattle.processor.proofs.state.State.reckons.Goals as goal

pub returns-in_err-v-clause-after : goal.returns-in_err-v-clause-after
returns-in_err-v-clause-after c =
    let h = c.in_err-v.ensures in
    let m = c.args.self.now in
    let o = op_number c.args.op in
    λ b s ins r.
    refused c.from_residual.result _ _ (λ w. After b m w s (does s ins (reckon o c.args.k.number c.args.j.number))) h.0 c.from_residual.ensures.1
    (by_zero b m s r.like ins o c.args.k.number c.args.j.number h.1)

pub returns-clause-after : goal.returns-clause-after
returns-clause-after c =
    λ b s ins r.
    reckons_on b c.args.self.now c.args.next s r _ ins (op_number c.args.op) c.args.k.number c.args.j.number c.in_ok-v.v c.in_ok-v.ensures (c.with_reg.ensures.on b s r)
