use Rattle.std.proofs.Common.{rules}
use Rattle.assembler.specs.Instructions.{instruction}
use Rattle.assembler.proofs.cursor.Cursor.instruction.Goals as goal

pub returns-in_err-mnemonic : goal.returns-in_err-mnemonic
unfolding instruction
returns-in_err-mnemonic c = search rules

pub returns-in_err-instr : goal.returns-in_err-instr
unfolding instruction
returns-in_err-instr c = search rules

pub returns-in_err-end : goal.returns-in_err-end
unfolding instruction
returns-in_err-end c = search rules

pub returns : goal.returns
unfolding instruction
returns c = search rules
