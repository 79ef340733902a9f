use Rattle.std.proofs.Common.{rules}
use Rattle.std.specs.Option.{ok_or}
use Rattle.assembler.specs.declared.mistakes.Expected.TheVariants as expected
use Rattle.assembler.specs.Words.{word, past_word}
use Rattle.command.specs.Codes.{op_number}
use Rattle.assembler.specs.Names.{op_named}
use Rattle.assembler.proofs.Taken.{Reads, reads_took, ok_or_reads}
use Rattle.assembler.proofs.cursor.Cursor.op.Goals as goal

pub returns : goal.returns
returns c =
    let t = c.args.self.now.rest.now in
    let p = c.take_word.ensures in
    let h : Reads op_number p.0 (ok_or (op_named (word t)) expected.Operation) = search (rules, p.1, ok_or_reads op_number expected.Operation) in
    reads_took op_number (ok_or (op_named (word t)) expected.Operation) t (past_word t) c.take_word.new.self.rest.now p.0 c.take_word.result h p.2
