use Rattle.command.specs.Machine.{does, return}
use Rattle.processor.specs.Like.{After}
use Rattle.processor.proofs.Faults.{refused}
use Rattle.processor.proofs.Instructions.{no_return, returns_on}
use Rattle.processor.proofs.state.State.returns.Goals as goal

pub returns-in_err-a-clause-after : goal.returns-in_err-a-clause-after
returns-in_err-a-clause-after c =
    let h = c.in_err-a.ensures in
    let m = c.args.self.now in
    λ b s ins l.
    refused c.from_residual.result _ _ (λ w. After b m w s (does s ins return)) h.0 c.from_residual.ensures.1 (no_return b m s l ins h.1)

pub returns-clause-after : goal.returns-clause-after
returns-clause-after c =
    let h = c.in_ok-a.ensures in
    λ b s ins l. simp c.from.ensures (returns_on b c.args.self.now s l ins c.in_ok-a.a c.get-self.result h.1 h.0 c.get-self.ensures)
