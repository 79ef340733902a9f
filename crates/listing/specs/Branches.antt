-- Which places instructions name, and which instructions name a place. Assumes nothing: these are definitions.
use Rattle.std.specs.Prelude.{ℕ, ◌+◌, Bool, true, false, List, [], ◌∷◌, ◌++◌, Some, None, codes as chars, decimal, Option, ◌==◌}
use Rattle.command.specs.Machine.{pick, any, Instr, load_number, copy, reckon, read, write, jump, jump_if, call, return, take_in, put_out, halt}
use Rattle.listing.specs.Columns.{blanks}
use Rattle.listing.specs.declared.branches.Branch.{Branch}
use Rattle.listing.specs.declared.branches.Branch.TheVariants.{Jump, Call}

-- the place that an instruction names; a return names none
abbrev pub branch_of : Instr → Option Branch
branch_of (load_number k n) = None
branch_of (copy k j) = None
branch_of (reckon o k j) = None
branch_of (read k b n) = None
branch_of (write k b n) = None
branch_of (jump k) = Some (Jump k)
branch_of (jump_if c k j n) = Some (Jump n)
branch_of (call k) = Some (Call k)
branch_of return = None
branch_of (take_in k) = None
branch_of (put_out k) = None
branch_of halt = None

abbrev pub same_branch : Branch → Branch → Bool
same_branch (Jump a) (Jump b) = a == b
same_branch (Jump a) (Call b) = false
same_branch (Call a) (Jump b) = false
same_branch (Call a) (Call b) = a == b

abbrev pub among : Branch → Option Branch → Bool
among b None = false
among b (Some a) = same_branch a b

abbrev pub is_branch : Branch → Instr → Bool
is_branch b i = among b (branch_of i)

-- some instruction is that branch
unfoldable pub has_branch : Branch → List Instr → Bool
has_branch b is = any (is_branch b) is

-- the places of those that are, from a place on, with a text before the first and commas between
unfoldable pub sources_on : Branch → ℕ → List ℕ → List Instr → List ℕ
sources_on b k before [] = []
sources_on b k before (i ∷ is) =
    pick (is_branch b i) ((before ++ decimal k) ++ sources_on b (k + 1) (chars ", ") is) (sources_on b (k + 1) before is)

abbrev pub sources_text : Branch → List Instr → List ℕ
sources_text b is = sources_on b 0 [] is

-- the comment on a place that is jumped to, and on one that is called, behind blanks
abbrev pub origins_by : Bool → Bool → List ℕ → List ℕ → List ℕ → List ℕ
origins_by true true bs js cs = bs ++ (chars "# jumped to from " ++ (js ++ (chars "; called from " ++ cs)))
origins_by true false bs js cs = bs ++ (chars "# jumped to from " ++ js)
origins_by false true bs js cs = bs ++ (chars "# called from " ++ cs)
origins_by false false bs js cs = []

abbrev pub origins_text : List Instr → ℕ → ℕ → List ℕ
origins_text is k n = origins_by (has_branch (Jump k) is) (has_branch (Call k) is) (blanks n) (sources_text (Jump k) is) (sources_text (Call k) is)
