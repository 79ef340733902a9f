use Rattle.std.proofs.Common.{get_or, ap, ◌∙◌, subst, ◌<◌}
use Rattle.command.specs.Machine.{does, read}
use Rattle.processor.specs.Like.{After}
use Rattle.processor.proofs.Faults.{refused}
use Rattle.processor.proofs.Instructions.{no_read, reads_on}
use Rattle.processor.proofs.state.State.reads.Goals as goal

pub returns-in_err-a-clause-after : goal.returns-in_err-a-clause-after
returns-in_err-a-clause-after c =
    let h = c.in_err-a.ensures in
    let m = c.args.self.now in
    λ b s ins r.
    refused c.from_residual.result _ _ (λ w. After b m w s (does s ins (read c.args.k.number c.args.from.number c.args.n))) h.0 c.from_residual.ensures.1
    (no_read b m s r.like ins c.args.k.number c.args.from.number c.args.n h.1)

pub returns-clause-after : goal.returns-clause-after
returns-clause-after c =
    let h = c.in_ok-a.ensures in
    λ b s ins r.
    reads_on b c.args.self.now c.args.next s r _ ins c.args.k.number c.args.from.number c.args.n c.get-v.result (subst (λ a. a < 65536) h.0 h.1)
    (c.get-v.ensures ∙ ap (λ a. get_or c.args.self.now.words.items.items a 0) h.0) (c.with_reg.ensures.on b s r)
