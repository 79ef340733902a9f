use Rattle.machine.proofs.Steps.{step_done}
use Rattle.machine.proofs.stepping.step.Goals as goal

pub returns : goal.returns
returns c =
    step_done c.args.memory.now c.args.kind c.args.a c.args.b c.args.c c.args.told.now c.args.out.now _ _ _ _ _ _ c.in-Some.ensures.1
    c.in-Some-as_mut_array.ensures.cases.long c.in-Some-as_mut_array.ensures.cases.same c.in-Some.ensures.0
    c.in-Some-first_chunk_mut.ensures.cases.enough c.in-Some-first_chunk_mut.ensures.cases.same c.answer.ensures.wide c.answer.ensures.told
