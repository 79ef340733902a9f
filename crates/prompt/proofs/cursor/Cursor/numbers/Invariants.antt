use Rattle.std.proofs.Common.{◌≡◌, ℕ, List, []}
use Rattle.prompt.specs.Words.{trimmed}
use Rattle.prompt.specs.Requests.{values}
use Rattle.prompt.proofs.cursor.Cursor.numbers.Given as goal

-- what is left to read, behind what was read, gives the same
abbrev pub invariant-loop-self : goal.invariant-loop-self
invariant-loop-self l = (done : List ℕ) × (values l.most done l.self.rest.now ≡ values 4096 [] (trimmed l.text))

abbrev pub decreases-loop-self : goal.decreases-loop-self
decreases-loop-self l = l.most
