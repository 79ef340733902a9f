use Rattle.std.proofs.Common.{rules}
use Rattle.command.specs.Codes.{code}
use Rattle.assembler.proofs.Runs.{each_push}
use Rattle.assembler.proofs.source.put_instr.Goals as goal

pub returns-in_ok-push : goal.returns-in_ok-push
returns-in_ok-push c = search (rules, each_push code)
