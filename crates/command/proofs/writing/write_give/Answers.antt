use Rattle.std.proofs.Common.{[], ◌∷◌, ap, ◌∙◌}
use Rattle.command.specs.Machine.{each}
use Rattle.command.specs.Plain.{spelled, numbers}
use Rattle.command.specs.Taken.{itself}
use Rattle.command.proofs.Writes.{each_itself, written_two}
use Rattle.command.proofs.writing.write_give.Goals as goal

pub returns : goal.returns
unfolding spelled
returns c =
    written_two (2 ∷ []) (numbers (each itself c.args.numbers.now)) c.in_ok-put_list.ensures c.in_ok-put.ensures c.new-text.ensures.items
    ∙ ap (λ l. 2 ∷ numbers l) (each_itself c.args.numbers.now)
