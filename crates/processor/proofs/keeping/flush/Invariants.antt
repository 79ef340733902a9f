use Rattle.processor.proofs.Flushes.{Flushing}
use Rattle.processor.proofs.keeping.flush.Given as goal

abbrev pub invariant-loop-p : goal.invariant-loop-p
invariant-loop-p l = Flushing l.items l.dirty l.initial.pages l.p l.pages
