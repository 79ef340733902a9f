-- What the pages of the store hold, and when they hold what the words are. Assumes nothing: these are definitions.
use Rattle.std.specs.Prelude.{◌≡◌, ℕ, ◌+◌, ◌*◌, ◌/◌, ◌%◌, ◌<◌, ◌≤◌, Bool, true, false, ◌&&◌, List, [], ◌∷◌, length, ◌==◌, ◌≢◌, slice_index, slice_index_or}
use Rattle.command.specs.Machine.{pick}

-- every page that a row names is there
abbrev pub Inside : (tables : List ℕ) → Type 0
Inside tables = (i : ℕ) → i < 65792 → slice_index tables i < 73728

-- every free page is there
abbrev pub FreeInside : (free : List ℕ) → Type 0
FreeInside free = (j : ℕ) → j < length free → slice_index free j < 73728

-- no row names a free page
abbrev pub Apart : (tables free : List ℕ) → Type 0
Apart tables free = (i j : ℕ) → i < 65792 → j < length free → slice_index tables i ≢ slice_index free j

-- the free pages differ
abbrev pub Distinct : (free : List ℕ) → Type 0
Distinct free = (i j : ℕ) → i < j → j < length free → slice_index free i ≢ slice_index free j

-- the word at a place, by a row; the present row is number 256
abbrev pub page_word : (cells tables : List ℕ) (row : ℕ) → ℕ → ℕ
page_word cells tables row a = slice_index cells (slice_index tables (row * 256 + a / 256) * 256 + a % 256)

-- what was not written since is on its page
abbrev pub Clean : (words : List ℕ) → List Bool → (cells tables : List ℕ) → Type 0
Clean words dirty cells tables = (a : ℕ) → a < 65536 → slice_index_or dirty (a / 256) true ≡ false → slice_index words a ≡ page_word cells tables 256 a

-- pages below k that are not marked, each once
pub record Gathered (used : List Bool) (k : ℕ) (free : List ℕ) : Type 0 where
  pub below : (j : ℕ) → j < length free → slice_index free j < k
  pub clear : (j : ℕ) → j < length free → slice_index_or used (slice_index free j) false ≡ false
  pub distinct : Distinct free

-- page p of the present row has the words, and all else is as it was
abbrev pub Stored : (words : List ℕ) (p : ℕ) (cells tables cells₁ tables₁ : List ℕ) → Type 0
Stored words p cells tables cells₁ tables₁ =
    (row a : ℕ) → row ≤ 256 → a < 65536 → page_word cells₁ tables₁ row a ≡ pick (row == 256 && a / 256 == p) (slice_index words a) (page_word cells tables row a)

-- how many are marked
unfoldable pub marked : List Bool → ℕ
marked [] = 0
marked (true ∷ bs) = 1 + marked bs
marked (false ∷ bs) = marked bs
