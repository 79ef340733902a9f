use Rattle.std.proofs.Common.{rules}
use Rattle.command.specs.Reader.{break}
use Rattle.command.proofs.reading.cursor.Cursor.stop.Goals as goal

pub returns-in_err-place : goal.returns-in_err-place
unfolding break
returns-in_err-place g c = search rules

pub returns-in_err-count : goal.returns-in_err-count
unfolding break
returns-in_err-count g c = search rules

pub returns-in_err-tests : goal.returns-in_err-tests
unfolding break
returns-in_err-tests g c = search rules

pub returns-in_err-changed : goal.returns-in_err-changed
unfolding break
returns-in_err-changed g c = search rules

pub returns : goal.returns
unfolding break
returns g c = search rules
