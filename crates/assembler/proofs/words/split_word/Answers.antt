use Rattle.std.proofs.Common.{◌∙◌}
use Rattle.assembler.specs.Words.{in_word}
use Rattle.assembler.proofs.Cuts.{front_taken, past_dropped}
use Rattle.assembler.proofs.words.split_word.Goals as goal

pub returns-clause-word : goal.returns-clause-word
returns-clause-word c = c.split_while.ensures.front in_word (λ b r h. h) ∙ front_taken in_word c.args.text.now

pub returns-clause-rest : goal.returns-clause-rest
returns-clause-rest c = c.split_while.ensures.rest in_word (λ b r h. h) ∙ past_dropped in_word c.args.text.now
