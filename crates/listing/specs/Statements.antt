-- What is proved of listings: statements. Assumes nothing: these are definitions.
use Rattle.std.specs.Prelude.{◌≡◌, ℕ, suc, true, false, List, [], Some, None, codes as chars}
use Rattle.std.specs.Str.{bytes_eq}
use Rattle.command.specs.Machine.{State, Instr, return, does}
use Rattle.command.specs.Plain.{an_instr}
use Rattle.assembler.specs.Words.{a_name}
use Rattle.assembler.specs.Names.{comparison_named}
use Rattle.assembler.specs.Reading.{got}
use Rattle.assembler.specs.Instructions.{Label, place_of, instruction}
use Rattle.assembler.specs.Listing.{instr_text}
use Rattle.listing.specs.declared.branches.Branch.TheVariants.{Jump, Call}
use Rattle.listing.specs.Branches.{branch_of}
use Rattle.listing.specs.Labels.{name_of}
use Rattle.listing.specs.Lines.{named_text}

abbrev pub Unlabelled : Type 0
Unlabelled = (i : Instr) → named_text [] i ≡ instr_text i

-- how an instruction at place p may lead to place k
pub data Leads (i : Instr) (p k : ℕ) : Type 0 where
  stays : k ≡ p → Leads i p k
  goes_on : k ≡ suc p → Leads i p k
  returns : i ≡ return → Leads i p k
  jumps : branch_of i ≡ Some (Jump k) → Leads i p k
  calls : branch_of i ≡ Some (Call k) → Leads i p k

-- so the origins of a place are all from which a step comes there, but for returns and the instruction before it
abbrev pub Told : Type 0
Told = (s : State) (ins : List ℕ) (i : Instr) → Leads i s.at (does s ins i).at

-- no place has a first label that is no name, names another place, or is one of the words that behind `jump` are no labels
pub record Clear (ls : List Label) : Type 0 where
  pub named : (k : ℕ) (w : List ℕ) → name_of ls k ≡ Some w → a_name w ≡ true
  pub alone : (k : ℕ) (w : List ℕ) → name_of ls k ≡ Some w → place_of ls w ≡ Some k
  pub unequal : (k : ℕ) (w : List ℕ) → name_of ls k ≡ Some w → comparison_named w ≡ None
  pub unnot : (k : ℕ) (w : List ℕ) → name_of ls k ≡ Some w → bytes_eq w (chars "not") ≡ false

-- with such labels, an instruction as it is listed assembles to itself
abbrev pub NamedBack : Type 0
NamedBack = (ls : List Label) (i : Instr) → Clear ls → an_instr i ≡ true → instruction ls (named_text ls i) ≡ got i []
