-- What is promised of reading a line. Each is a statement; a function of src/statements.rt has it as its contract. Assumes nothing.
use Rattle.std.specs.Prelude.{◌≡◌, ℕ, ◌≤◌, List, ◌∷◌, ◌++◌, codes, decimal}
use Rattle.prompt.specs.Verbs.{spelling, verbs, no_verb, exact, choice}
use Rattle.prompt.specs.Numbers.{most_of}
use Rattle.prompt.specs.Requests.{request, right, forward, words, outs}
use Rattle.prompt.specs.declared.verbs.Verb.{Verb}
use Rattle.prompt.specs.declared.quantities.Quantity.TheVariants.{Steps, Address, First, Count}

-- A word that is spelled out means that command.
unfoldable pub SpelledOut : Type 0
SpelledOut = (v : Verb) → choice (spelling v) verbs no_verb ≡ exact v

-- a number behind a space
abbrev pub spaced : ℕ → List ℕ
spaced n = 32 ∷ decimal n

-- A command that is typed in full, with numbers that are allowed, is read as that.
unfoldable pub TypedBack : Type 0
TypedBack =
    ((n : ℕ) → n ≤ most_of Steps → request (codes "forward" ++ spaced n) ≡ right (forward n))
    × ((a n : ℕ) → a ≤ most_of Address → n ≤ most_of Count → request (codes "words" ++ (spaced a ++ spaced n)) ≡ right (words a n))
    × ((a n : ℕ) → a ≤ most_of First → n ≤ most_of Count → request (codes "outs" ++ (spaced a ++ spaced n)) ≡ right (outs a n))
