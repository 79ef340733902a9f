use Rattle.driver.proofs.Seen.{none_left, word_taken}
use Rattle.driver.proofs.rows.U32InRow.next.Goals as goal

pub returns-in_err-number : goal.returns-in_err-number
returns-in_err-number c = rw c.from_residual.ensures (none_left c.args.cursor.now.rest.now c.in_err-number.ensures.cases)

pub returns : goal.returns
returns c = rw c.ok.ensures.value (word_taken c.try_from.result c.in_ok-number.number.now c.in_ok-number.rest.now c.args.cursor.now.rest.now c.in_ok-number.ensures.cases.0 c.try_from.ensures)
