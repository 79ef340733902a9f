use Rattle.prompt.specs.Verbs.{verbs}
use Rattle.prompt.proofs.Choices.{Sofar}
use Rattle.prompt.proofs.verbs.choose.Given as goal

abbrev pub invariant-loop-verb : goal.invariant-loop-verb
invariant-loop-verb l = Sofar l.word verbs l.verb-index l.chosen
