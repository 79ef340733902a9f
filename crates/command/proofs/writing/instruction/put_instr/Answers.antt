use Rattle.std.proofs.Common.{rules}
use Rattle.command.specs.Plain.{instr_spelled}
use Rattle.command.proofs.writing.instruction.put_instr.Goals as goal

pub returns-in-Load : goal.returns-in-Load
unfolding instr_spelled
returns-in-Load g c = search rules

pub returns-in-Copied : goal.returns-in-Copied
unfolding instr_spelled
returns-in-Copied g c = search rules

pub returns-in-Reckon : goal.returns-in-Reckon
unfolding instr_spelled
returns-in-Reckon g c = search rules

pub returns-in-Read : goal.returns-in-Read
unfolding instr_spelled
returns-in-Read g c = search rules

pub returns-in-Write : goal.returns-in-Write
unfolding instr_spelled
returns-in-Write g c = search rules

pub returns-in-Jump : goal.returns-in-Jump
unfolding instr_spelled
returns-in-Jump g c = search rules

pub returns-in-JumpIf : goal.returns-in-JumpIf
unfolding instr_spelled
returns-in-JumpIf g c = search rules

pub returns-in-Call : goal.returns-in-Call
unfolding instr_spelled
returns-in-Call g c = search rules

pub returns-in-Return : goal.returns-in-Return
unfolding instr_spelled
returns-in-Return g c = search rules

pub returns-in-In : goal.returns-in-In
unfolding instr_spelled
returns-in-In g c = search rules

pub returns-in-Out : goal.returns-in-Out
unfolding instr_spelled
returns-in-Out g c = search rules

pub returns-in-Halt : goal.returns-in-Halt
unfolding instr_spelled
returns-in-Halt g c = search rules
