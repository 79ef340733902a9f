-- A listing assembles to the program that it lists: statements. Assumes nothing: these are definitions.
use Rattle.std.specs.Prelude.{◌≡◌, ℕ, ◌≤◌, true, List, [], length, Ok}
use Rattle.command.specs.Machine.{every, Instr}
use Rattle.command.specs.Plain.{an_instr}
use Rattle.assembler.specs.Listing.{listing}
use Rattle.assembler.specs.Source.{assembled}

-- a program that may be loaded
pub record Loadable (is : List Instr) : Type 0 where
  pub few : length is ≤ 4096
  pub fit : every an_instr is ≡ true

-- that text assembles to that program, with no labels
abbrev pub Assembles : List ℕ → List Instr → Type 0
Assembles t is = assembled t ≡ Ok (record { program = is; labels = [] })

abbrev pub ListedBack : Type 0
ListedBack = (is : List Instr) → Loadable is → Assembles (listing is) is

-- no two programs have one listing
abbrev pub ListedOnce : Type 0
ListedOnce = (is js : List Instr) → Loadable is → Loadable js → listing is ≡ listing js → is ≡ js
