-- The words that the store of pages holds. Assumes nothing: these are definitions.
use Rattle.std.specs.Prelude.{ℕ, vec_items}
use Rattle.processor.specs.Pages.{page_word}
use Rattle.processor.specs.declared.pages.Pages.{Pages}

-- the word at a place, by a row
abbrev pub held_word : Pages → (row : ℕ) → ℕ → ℕ
held_word ps row a = page_word (vec_items ps.cells) (vec_items ps.tables) row a
