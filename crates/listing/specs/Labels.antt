-- The labels of places. Assumes nothing: these are definitions.
use Rattle.std.specs.Prelude.{ℕ, List, [], ◌∷◌, ◌++◌, Some, None, codes as chars, decimal, Option, ◌==◌}
use Rattle.std.specs.Option.{unwrap_or}
use Rattle.command.specs.Machine.{pick}
use Rattle.assembler.specs.Instructions.{Label}

-- the first label of a place
unfoldable pub name_of : List Label → ℕ → Option (List ℕ)
name_of [] k = None
name_of (l ∷ ls) k = pick (l.place == k) (Some l.name) (name_of ls k)

-- a place by its label, or else by its number
abbrev pub place_text : List Label → ℕ → List ℕ
place_text ls k = unwrap_or (name_of ls k) (decimal k)

-- all labels of a place, each on a line of its own
unfoldable pub headings : List Label → ℕ → List ℕ
headings [] k = []
headings (l ∷ ls) k = pick (l.place == k) ((l.name ++ chars ":\n") ++ headings ls k) (headings ls k)
