use Rattle.std.proofs.Common.{rules}
use Rattle.assembler.specs.Source.{line_instr}
use Rattle.assembler.proofs.source.line_instr.Goals as goal

pub returns-in-Ok : goal.returns-in-Ok
unfolding line_instr
returns-in-Ok c = search rules

pub returns-in-Err : goal.returns-in-Err
unfolding line_instr
returns-in-Err c = search rules
