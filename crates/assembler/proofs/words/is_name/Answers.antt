use Rattle.std.proofs.Common.{sym, ap, ◌∙◌, arith, ltb-false, ltb-true, rules}
use Rattle.std.proofs.lemmas.List.{nil_from_length}
use Rattle.assembler.specs.Words.{in_name, a_name}
use Rattle.assembler.proofs.Cuts.{past_dropped}
use Rattle.assembler.proofs.words.is_name.Goals as goal

pub returns-in-empty : goal.returns-in-empty
returns-in-empty c = sym (ap a_name (nil_from_length c.args.word.now (omega (arith, ltb-true, ltb-false))))

pub returns-then-is_letter : goal.returns-then-is_letter
returns-then-is_letter c = let e = c.split_while.ensures.rest in_name (λ b r h. h) ∙ past_dropped in_name c.args.word.now in search rules
