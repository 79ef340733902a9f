use Rattle.std.proofs.Common.{sym, refl}
use Rattle.command.specs.Machine.{word_at, so_many}
use Rattle.processor.proofs.state.State.start.Goals as goal

pub returns : goal.returns
unfolding word_at so_many
returns c =
    let l = c.in_ok-log.ensures in (
      l.capacity,
      l.items,
      refl,
      record { place = refl; registers = refl; words = λ a. sym (c.in_ok-words.ensures a); took = refl; put = refl; log = l.items; pages = refl; runs = refl },
    )
