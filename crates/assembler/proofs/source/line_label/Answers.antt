use Rattle.std.proofs.Common.{rules}
use Rattle.assembler.specs.Source.{line_label}
use Rattle.assembler.proofs.source.line_label.Goals as goal

pub returns-in-Ok : goal.returns-in-Ok
unfolding line_label
returns-in-Ok c = search rules

pub returns-in-Err : goal.returns-in-Err
unfolding line_label
returns-in-Err c = search rules
