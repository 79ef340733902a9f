use Rattle.std.proofs.Common.{rules}
use Rattle.assembler.specs.Instructions.{label_of}
use Rattle.assembler.proofs.Runs.{each_push}
use Rattle.assembler.proofs.source.put_label.Goals as goal

pub returns-in_ok-push : goal.returns-in_ok-push
returns-in_ok-push c = search (rules, each_push label_of)
