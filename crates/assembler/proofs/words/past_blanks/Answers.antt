use Rattle.std.proofs.Common.{◌∙◌}
use Rattle.assembler.specs.Words.{blank}
use Rattle.assembler.proofs.Cuts.{past_dropped}
use Rattle.assembler.proofs.words.past_blanks.Goals as goal

pub returns : goal.returns
returns c = c.split_while.ensures.rest blank (λ b r h. h) ∙ past_dropped blank c.args.text.now
