use Rattle.std.proofs.Common.{rules}
use Rattle.std.specs.Option.{ok_or}
use Rattle.assembler.specs.declared.mistakes.Expected.TheVariants as expected
use Rattle.assembler.specs.Words.{word, past_word}
use Rattle.assembler.specs.Instructions.{reg_number, register_named}
use Rattle.assembler.proofs.Taken.{Reads, reads_took, ok_or_reads}
use Rattle.assembler.proofs.cursor.Cursor.register.Goals as goal

pub returns : goal.returns
returns c =
    let t = c.args.self.now.rest.now in
    let p = c.take_word.ensures in
    let h : Reads reg_number p.0 (ok_or (register_named (word t)) expected.Register) = search (rules, p.1, ok_or_reads reg_number expected.Register) in
    reads_took reg_number (ok_or (register_named (word t)) expected.Register) t (past_word t) c.take_word.new.self.rest.now p.0 c.take_word.result h p.2
