use Rattle.std.proofs.Common.{rules}
use Rattle.command.specs.Told.{program_in, numbers_in}
use Rattle.command.proofs.reading.cursor.Cursor.command_of.Goals as goal

pub returns-in_ok-list-in-1-clause-takes : goal.returns-in_ok-list-in-1-clause-takes
unfolding program_in
returns-in_ok-list-in-1-clause-takes g c = search rules

pub returns-in_ok-list-in-1-clause-counted : goal.returns-in_ok-list-in-1-clause-counted
unfolding program_in
returns-in_ok-list-in-1-clause-counted g c = search rules

pub returns-in_ok-list-in-2-clause-takes : goal.returns-in_ok-list-in-2-clause-takes
unfolding numbers_in
returns-in_ok-list-in-2-clause-takes g c = search rules

pub returns-in_ok-list-in-2-clause-counted : goal.returns-in_ok-list-in-2-clause-counted
unfolding numbers_in
returns-in_ok-list-in-2-clause-counted g c = search rules
