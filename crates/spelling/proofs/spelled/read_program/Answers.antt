use Rattle.std.proofs.Common.{length, vec_items, sym, ap, ◌∙◌, eqb-true}
use borrow.Author.Tests.{eqb-false}
use Rattle.command.specs.Codes.{codes}
use Rattle.command.specs.Reader.{instr, bytes, so_many}
use Rattle.command.specs.Taken.{left, itself}
use Rattle.command.proofs.Texts.{took, took_none}
use Rattle.spelling.specs.Spelling.{all_of}
use Rattle.spelling.proofs.Programs.{program_back, no_count, by_count, no_program, stopped, refused, err_is, nothing_left, something_left}
use Rattle.spelling.proofs.spelled.read_program.Goals as goal

pub returns-in_err-count : goal.returns-in_err-count
returns-in_err-count c =
    let t = c.args.bytes.now in
    let n = c.in_err-count.ensures.ok_part in
    refused t c.in_err-count.field-0.0 c.from_residual.result (no_count t (took_none itself (bytes 8 0 t) (left c.number.new.self) n c.number.ensures)) (err_is c.in_err-count.ensures.value n)
    c.from_residual.ensures.1

pub returns-in_err-program : goal.returns-in_err-program
returns-in_err-program c =
    let t = c.args.bytes.now in
    let u = left c.number.new.self in
    stopped t (so_many instr c.in_ok-count.count u) (left c.read_instrs.new.cursor) c.in_err-program.field-0.0 c.from_residual-in_err-program.result
    (by_count t (took itself (bytes 8 0 t) u c.in_ok-count.ensures.ok_part c.number.ensures)) c.in_err-program.ensures c.from_residual-in_err-program.ensures.1

pub returns-then-is_done : goal.returns-then-is_done
returns-then-is_done c =
    let t = c.args.bytes.now in
    let u = left c.number.new.self in
    let v = left c.read_instrs.new.cursor in
    let is = codes (vec_items c.in_ok-program.program) in
    program_back t is
    (by_count t (took itself (bytes 8 0 t) u c.in_ok-count.ensures.ok_part c.number.ensures) ∙ ap all_of c.in_ok-program.ensures
    ∙ nothing_left is v (eqb-true (length v) 0 (sym c.if-is_done.ensures)))

pub returns-else-is_done : goal.returns-else-is_done
returns-else-is_done c =
    let t = c.args.bytes.now in
    let u = left c.number.new.self in
    let v = left c.read_instrs.new.cursor in
    let is = codes (vec_items c.in_ok-program.program) in
    no_program t
    (by_count t (took itself (bytes 8 0 t) u c.in_ok-count.ensures.ok_part c.number.ensures) ∙ ap all_of c.in_ok-program.ensures
    ∙ something_left is v (eqb-false (length v) 0 (sym c.if-is_done.ensures)))
