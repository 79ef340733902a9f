use Rattle.std.proofs.Common.{refl, sym, ap, ◌∙◌, subst}
use Rattle.command.specs.Codes.{code, codes}
use Rattle.command.specs.Machine.{does, step}
use Rattle.processor.specs.Like.{After}
use Rattle.processor.proofs.Faults.{refused}
use Rattle.processor.proofs.Instructions.{no_instr, steps_on}
use Rattle.processor.proofs.state.State.step.Goals as goal

pub returns-in_err-i-clause-after : goal.returns-in_err-i-clause-after
returns-in_err-i-clause-after c =
    let h = c.in_err-i.ensures in
    let m = c.args.self.now in
    λ b s l.
    refused c.from_residual.result _ _ (λ w. After b m w s (step (codes c.args.program.now) c.args.fed.now s)) h.0 c.from_residual.ensures.1
    (no_instr b m s l c.args.program.now c.args.fed.now h.1)

pub returns-clause-after : goal.returns-clause-after
returns-clause-after c =
    λ b s l.
    let i = c.in_ok-i.i in
    let h = c.in_ok-i.ensures in
    let e = steps_on b c.args.self.now s l c.args.program.now c.args.fed.now i h.0 in
    let f = ap (λ z. does s c.args.fed.now (code z)) (h.1 i) in
    subst (After b c.does.new.self c.does.result s) (sym (e ∙ sym f)) (c.does.ensures.after b s (record { like = l; follows = refl }))
