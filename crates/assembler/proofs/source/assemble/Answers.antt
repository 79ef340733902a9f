use Rattle.std.proofs.Common.{◌≡◌, Ok, rules}
use Rattle.assembler.specs.Source.{assembled, assembly_of}
use Rattle.assembler.proofs.Loads.{assembled_loads}
use Rattle.assembler.proofs.source.assemble.Goals as goal

pub returns-in_err-labels : goal.returns-in_err-labels
unfolding assembled
returns-in_err-labels c = search rules

pub returns-in_err-program : goal.returns-in_err-program
unfolding assembled
returns-in_err-program c = search rules

pub returns : goal.returns
unfolding assembled
returns c =
    let a = assembly_of (record { program = c.in_ok-program.program; labels = c.in_ok-labels.labels }) in
    let e : assembled c.args.text.now ≡ Ok a = search rules in
    record { answer = e; loadable = assembled_loads c.args.text.now a e }
