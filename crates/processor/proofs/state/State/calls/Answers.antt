use Rattle.command.specs.Machine.{does, call}
use Rattle.processor.specs.Like.{After}
use Rattle.processor.proofs.Faults.{refused}
use Rattle.processor.proofs.Instructions.{no_call, calls_on}
use Rattle.processor.proofs.state.State.calls.Goals as goal

pub returns-in_err-place-clause-after : goal.returns-in_err-place-clause-after
returns-in_err-place-clause-after c =
    let h = c.in_err-place.ensures in
    let m = c.args.self.now in
    λ b s ins r.
    refused c.from_residual.result _ _ (λ w. After b m w s (does s ins (call c.args.k))) h.0 c.from_residual.ensures.1 (no_call b m s r.like ins c.args.k h.1)

pub returns-clause-after : goal.returns-clause-after
returns-clause-after c =
    let h = c.in_ok-place.ensures in
    λ b s ins r.
    simp (c.from-self.ensures, c.from.ensures)
    (calls_on b c.args.self.now c.args.next s r c.put-word.new.self ins c.args.k c.in_ok-place.place _ h.1 h.0 c.put-word.ensures.word
    c.put-word.ensures.items c.put-word.ensures.pages)
