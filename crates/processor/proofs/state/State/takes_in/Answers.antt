use Rattle.command.specs.Machine.{does, take_in}
use Rattle.processor.specs.Like.{After}
use Rattle.processor.proofs.Faults.{refused}
use Rattle.processor.proofs.Instructions.{waits, takes_on}
use Rattle.processor.proofs.state.State.takes_in.Goals as goal

pub returns-in_err-v-clause-after : goal.returns-in_err-v-clause-after
returns-in_err-v-clause-after c =
    let h = c.in_err-v.ensures in
    let m = c.args.self.now in
    λ b s r.
    refused c.from_residual.result _ _ (λ w. After b m w s (does s c.args.fed.now (take_in c.args.k.number))) h.0 c.from_residual.ensures.1
    (waits b m s r.like c.args.fed.now c.args.k.number h.1)

pub returns-clause-after : goal.returns-clause-after
returns-clause-after c =
    let h = c.in_ok-v.ensures in
    λ b s r. takes_on b c.args.self.now c.args.next s r c.args.fed.now c.args.k.number c.in_ok-v.v h.0 h.1
