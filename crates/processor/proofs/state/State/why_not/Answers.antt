use Rattle.std.proofs.Common.{Some, sym, ap, ◌∙◌}
use Rattle.command.specs.Codes.{code, codes}
use Rattle.command.specs.Machine.{does, step}
use Rattle.command.specs.Plain.{status_number}
use Rattle.target.specs.declared.answers.Why.TheVariants.{NoInstr}
use Rattle.target.specs.Whys.{why_number}
use Rattle.processor.proofs.Instructions.{no_instr, steps_on}
use Rattle.processor.proofs.WhyNot.{because}
use Rattle.processor.proofs.state.State.why_not.Goals as goal

pub returns-in-Err : goal.returns-in-Err
returns-in-Err c b s l =
    let h = c.in-Err.ensures in
    ap (λ z. why_number (Some z)) h.0
    ∙ because b c.args.self.now s NoInstr (step (codes c.args.program.now) c.args.fed.now s) (no_instr b c.args.self.now s l c.args.program.now c.args.fed.now h.1)

pub returns-in-Ok : goal.returns-in-Ok
returns-in-Ok c b s l =
    let i = c.in-Ok.i in
    let h = c.in-Ok.ensures in
    let e = steps_on b c.args.self.now s l c.args.program.now c.args.fed.now i h.0 in
    let f = ap (λ z. does s c.args.fed.now (code z)) (h.1 i) in
    c.not_done.ensures b s l ∙ ap (λ z. status_number z.status) (f ∙ sym e)
