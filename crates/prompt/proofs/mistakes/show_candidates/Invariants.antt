use denote.Text.{Utf8}
use denote.Shadow.{shadow}
use Rattle.prompt.proofs.mistakes.show_candidates.Given as goal

abbrev pub invariant-loop-verb : goal.invariant-loop-verb
invariant-loop-verb g l = shadow (Utf8 l.separator)
