use Rattle.std.proofs.Common.{◌≡◌, [], vec_items}
use Rattle.prompt.specs.Words.{trimmed}
use Rattle.prompt.specs.Requests.{values}
use Rattle.prompt.proofs.requests.Numbers.to_vec.Given as goal

-- what is left to read, behind what was read, gives the same
abbrev pub invariant-loop-cursor : goal.invariant-loop-cursor
invariant-loop-cursor l = values l.most (vec_items l.numbers) l.cursor.rest.now ≡ values 4096 [] (trimmed l.self.text.now)

abbrev pub decreases-loop-cursor : goal.decreases-loop-cursor
decreases-loop-cursor l = l.most
