-- What is left of a list of instructions or labels, turn by turn. Assumes nothing.
use Rattle.std.proofs.Common.{◌≡◌, ℕ, ◌+◌, ◌<◌, ◌≤◌, Bool, true, false, eqb, List, [], ◌∷◌, ◌++◌, length, get_or, drop, Some, None, string_bytes, codes as chars, decimal, Option, Bor, sym, refl, ap, ◌∙◌, ⊎_elim}
use Rattle.std.specs.List.{find, list_any}
use Rattle.std.specs.Option.{option_map}
use Rattle.std.proofs.lemmas.Bool.{cases_Bool}
use Rattle.std.proofs.lemmas.List.{at_drop_more, at_drop_all}
use Rattle.command.specs.Codes.{code, codes}
use Rattle.command.specs.Machine.{pick, Instr}
use Rattle.command.specs.declared.code.Instr.{Instr as Code}
use Rattle.assembler.specs.Instructions.{Label, labels_of}
use Rattle.assembler.specs.declared.labels.Label.{Label as LabelCode}
use Rattle.listing.specs.declared.branches.Branch.{Branch}
use Rattle.listing.specs.declared.branches.Branch.TheVariants.{Jump, Call}
use Rattle.listing.specs.Branches.{is_branch, has_branch, sources_on, sources_text, origins_by, origins_text}
use Rattle.listing.specs.Columns.{blanks}
use Rattle.listing.specs.Labels.{name_of, headings}
use Rattle.listing.specs.Lines.{line_text}
use Rattle.listing.specs.Window.{in_window, is_at, lines_on}

pub branch_any : (b : Branch) (is : List Code) → list_any (λ (i : Code). is_branch b (code i)) is ≡ has_branch b (codes is)
unfolding has_branch
branch_any b [] = refl
branch_any b (i ∷ is) =
    ⊎_elim (λ (e : is_branch b (code i) ≡ true). rw e refl) (λ (e : is_branch b (code i) ≡ false). rw e (branch_any b is)) (cases_Bool (is_branch b (code i)))

pub source_at : (b : Branch) (is : List Code) (i : ℕ) (t : List ℕ) (x : Code) → i < length is → x ≡ get_or is i x
    → sources_on b i t (codes (drop i is))
    ≡ pick (is_branch b (code x)) ((t ++ decimal i) ++ sources_on b (i + 1) (chars ", ") (codes (drop (i + 1) is))) (sources_on b (i + 1) t (codes (drop (i + 1) is)))
unfolding sources_on
source_at b is i t x h e =
    at_drop_more (λ u. sources_on b i t (codes u)) is i x h
    ∙ ap (λ (k : Code). sources_on b i t (codes (k ∷ drop (i + 1) is))) (sym e)

pub source_end : (b : Branch) (is : List Code) (i : ℕ) (t : List ℕ) → length is ≤ i → sources_on b i t (codes (drop i is)) ≡ []
unfolding sources_on
source_end b is i t h = at_drop_all (λ u. sources_on b i t (codes u)) is i h

name_found : (k : ℕ) (ls : List LabelCode) → option_map (λ (l : LabelCode). string_bytes l.name) (find (λ (l : LabelCode). eqb l.place k) ls) ≡ name_of (labels_of ls) k
unfolding name_of
name_found k [] = refl
name_found k (l ∷ ls) = ⊎_elim (λ (e : eqb l.place k ≡ true). rw e refl) (λ (e : eqb l.place k ≡ false). rw e (name_found k ls)) (cases_Bool (eqb l.place k))

pub name_is : (k : ℕ) (ls : List LabelCode) (o : Option (Bor LabelCode)) → option_map (λ x. x.now) o ≡ find (λ (l : LabelCode). eqb l.place k) ls
    → option_map (λ (x : Bor LabelCode). string_bytes x.now.name) o ≡ name_of (labels_of ls) k
name_is k ls None e = ap (option_map (λ (l : LabelCode). string_bytes l.name)) e ∙ name_found k ls
name_is k ls (Some x) e = ap (option_map (λ (l : LabelCode). string_bytes l.name)) e ∙ name_found k ls

pub heading_at : (ls : List LabelCode) (i k : ℕ) (l : LabelCode) → i < length ls → l ≡ get_or ls i l
    → headings (labels_of (drop i ls)) k
    ≡ pick (eqb l.place k) ((string_bytes l.name ++ chars ":\n") ++ headings (labels_of (drop (i + 1) ls)) k) (headings (labels_of (drop (i + 1) ls)) k)
unfolding headings
heading_at ls i k l h e =
    at_drop_more (λ u. headings (labels_of u) k) ls i l h ∙ ap (λ (m : LabelCode). headings (labels_of (m ∷ drop (i + 1) ls)) k) (sym e)

pub heading_end : (ls : List LabelCode) (i k : ℕ) → length ls ≤ i → headings (labels_of (drop i ls)) k ≡ []
unfolding headings
heading_end ls i k h = at_drop_all (λ u. headings (labels_of u) k) ls i h

pub line_at : (js : List Instr) (ls : List Label) (from to : ℕ) (a : Option ℕ) (is : List Code) (i : ℕ) (x : Code) → i < length is → x ≡ get_or is i x
    → lines_on js ls from to a i (codes (drop i is))
    ≡ pick (in_window from to i) (line_text js ls (is_at a i) i (code x) ++ lines_on js ls from to a (i + 1) (codes (drop (i + 1) is))) (lines_on js ls from to a (i + 1) (codes (drop (i + 1) is)))
unfolding lines_on
line_at js ls from to a is i x h e =
    at_drop_more (λ u. lines_on js ls from to a i (codes u)) is i x h
    ∙ ap (λ (k : Code). lines_on js ls from to a i (codes (k ∷ drop (i + 1) is))) (sym e)

pub line_end : (js : List Instr) (ls : List Label) (from to : ℕ) (a : Option ℕ) (is : List Code) (i : ℕ) → length is ≤ i → lines_on js ls from to a i (codes (drop i is)) ≡ []
unfolding lines_on
line_end js ls from to a is i h = at_drop_all (λ u. lines_on js ls from to a i (codes u)) is i h

-- the comment by what was found
pub origins_are : (is : List Instr) (k n : ℕ) (a b : Bool) → a ≡ has_branch (Jump k) is → b ≡ has_branch (Call k) is
    → origins_by a b (blanks n) (sources_text (Jump k) is) (sources_text (Call k) is) ≡ origins_text is k n
origins_are is k n a b p q =
    let js = sources_text (Jump k) is in
    let cs = sources_text (Call k) is in
    ap (λ (x : Bool). origins_by x b (blanks n) js cs) p ∙ ap (λ (y : Bool). origins_by (has_branch (Jump k) is) y (blanks n) js cs) q
