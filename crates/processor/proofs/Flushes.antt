-- Pages flushed to the store and restored from it, one after the other; W has the words that the rows hold. Assumes nothing.
use Rattle.std.proofs.Common.{◌≡◌, ℕ, ◌+◌, ◌*◌, ◌/◌, ◌%◌, ◌<◌, ◌≤◌, Bool, true, false, ◌&&◌, eqb, List, get_or, replicate, vec_items, vec_len, sym, refl, ap, ◌∙◌, arith}
use Rattle.std.proofs.lemmas.Bool.{eqb-true, eqb-false, ne_eqb, false≢true}
use Rattle.command.specs.Machine.{pick}
use Rattle.command.proofs.Picks.{by_test}
use Rattle.processor.proofs.Defaults.{defaults_copies}
use Rattle.processor.specs.Pages.{page_word, Clean, Stored}
use Rattle.processor.specs.Held.{held_word}
use Rattle.processor.specs.declared.pages.Pages.{Pages}

-- what was not written since is in the present row
abbrev pub CleanBy : (ws : List ℕ) (dirty : List Bool) (W : ℕ → ℕ → ℕ) → Type 0
CleanBy ws dirty W = (a : ℕ) → a < 65536 → get_or dirty (a / 256) true ≡ false → get_or ws a 0 ≡ W 256 a

module _ (ws : List ℕ) (W W₁ : ℕ → ℕ → ℕ) (p : ℕ) (hp : p < 256)
    (stored : (row a : ℕ) → row ≤ 256 → a < 65536 → W₁ row a ≡ pick (eqb row 256 && eqb (a / 256) p) (get_or ws a 0) (W row a)) where
  pub stored_front : ((a : ℕ) → a < p * 256 → W 256 a ≡ get_or ws a 0) → (a : ℕ) → a < (p + 1) * 256 → W₁ 256 a ≡ get_or ws a 0
  stored_front f a h =
      by_test (eqb (a / 256) p)
      (λ (t : eqb (a / 256) p ≡ true). stored 256 a (omega arith) (omega arith) ∙ simp t)
      (λ (t : eqb (a / 256) p ≡ false). let ne = eqb-false (a / 256) p t in stored 256 a (omega arith) (omega arith) ∙ simp t (f a (omega arith)))

  pub stored_clean : (dirty : List Bool) → CleanBy ws dirty W → CleanBy ws dirty W₁
  stored_clean dirty f a h d =
      by_test (eqb (a / 256) p)
      (λ (t : eqb (a / 256) p ≡ true). sym (stored 256 a (omega arith) h ∙ simp t))
      (λ (t : eqb (a / 256) p ≡ false). f a h d ∙ sym (stored 256 a (omega arith) h ∙ simp t))

  pub stored_others : (row a : ℕ) → row < 256 → a < 65536 → W₁ row a ≡ W row a
  stored_others row a h ha = let ne : row ≡ 256 → ⊥ = λ e. (let q = e in omega arith) in stored row a (omega arith) ha ∙ simp (ne_eqb row 256 ne)

-- a page that is clean is there already
pub clean_front : (ws : List ℕ) (dirty : List Bool) (W : ℕ → ℕ → ℕ) (p : ℕ) → p < 256 → get_or dirty p true ≡ false → CleanBy ws dirty W
    → ((a : ℕ) → a < p * 256 → W 256 a ≡ get_or ws a 0) → (a : ℕ) → a < (p + 1) * 256 → W 256 a ≡ get_or ws a 0
clean_front ws dirty W p hp d g f a h =
    by_test (eqb (a / 256) p)
    (λ (t : eqb (a / 256) p ≡ true). let q = eqb-true (a / 256) p t in sym (g a (omega arith) (ap (λ z. get_or dirty z true) q ∙ d)))
    (λ (t : eqb (a / 256) p ≡ false). let ne = eqb-false (a / 256) p t in f a (omega arith))

-- all is flushed: nothing is dirty
pub all_clean : (ws : List ℕ) (dirty : List Bool) (W : ℕ → ℕ → ℕ) → ((a : ℕ) → a < 65536 → W 256 a ≡ get_or ws a 0) → CleanBy ws dirty W
all_clean ws dirty W f a h d = sym (f a h)

pub dirty_clean : (ws : List ℕ) (W : ℕ → ℕ → ℕ) → CleanBy ws (replicate 256 true) W
dirty_clean ws W a h d = absurd (false≢true (sym d ∙ defaults_copies 256 true (a / 256)))

-- one page more is the slot's
module _ (ws₀ ws : List ℕ) (slot p : ℕ) (hp : p < 256) (V : ℕ → ℕ)
    (front : (a : ℕ) → a < p * 256 → get_or ws a 0 ≡ V a) (rest : (a : ℕ) → p * 256 ≤ a → get_or ws a 0 ≡ get_or ws₀ a 0) where
  pub restored_front : (ws₁ : List ℕ) (f : ℕ → ℕ) → ((a : ℕ) → get_or ws₁ a 0 ≡ pick (eqb (a / 256) p) (f (a % 256)) (get_or ws a 0))
      → ((a : ℕ) → a / 256 ≡ p → f (a % 256) ≡ V a) → (a : ℕ) → a < (p + 1) * 256 → get_or ws₁ a 0 ≡ V a
  restored_front ws₁ f c g a h =
      by_test (eqb (a / 256) p)
      (λ (t : eqb (a / 256) p ≡ true). c a ∙ simp t (g a (eqb-true (a / 256) p t)))
      (λ (t : eqb (a / 256) p ≡ false). let ne = eqb-false (a / 256) p t in c a ∙ simp t (front a (omega arith)))

  pub restored_rest : (ws₁ : List ℕ) (f : ℕ → ℕ) → ((a : ℕ) → get_or ws₁ a 0 ≡ pick (eqb (a / 256) p) (f (a % 256)) (get_or ws a 0))
      → (a : ℕ) → (p + 1) * 256 ≤ a → get_or ws₁ a 0 ≡ get_or ws₀ a 0
  restored_rest ws₁ f c a h =
      let ne : a / 256 ≡ p → ⊥ = λ e. (let q = e in omega arith) in
      c a ∙ simp (ne_eqb (a / 256) p ne) (rest a (omega arith))

  -- where the page was the slot's already
  pub same_front : ((a : ℕ) → a / 256 ≡ p → get_or ws₀ a 0 ≡ V a) → (a : ℕ) → a < (p + 1) * 256 → get_or ws a 0 ≡ V a
  same_front g a h =
      by_test (eqb (a / 256) p)
      (λ (t : eqb (a / 256) p ≡ true). let q = eqb-true (a / 256) p t in rest a (omega arith) ∙ g a q)
      (λ (t : eqb (a / 256) p ≡ false). let ne = eqb-false (a / 256) p t in front a (omega arith))

-- a page that is clean and named by both rows
pub same_page : (ws cs ts : List ℕ) (dirty : List Bool) (slot p : ℕ) → p < 256 → get_or dirty p true ≡ false → get_or ts (slot * 256 + p) 0 ≡ get_or ts (65536 + p) 0
    → CleanBy ws dirty (page_word cs ts) → (a : ℕ) → a / 256 ≡ p → get_or ws a 0 ≡ page_word cs ts slot a
same_page ws cs ts dirty slot p hp d e g a q =
    g a (omega arith) (ap (λ z. get_or dirty z true) q ∙ d)
    ∙ ap (λ z. get_or cs (get_or ts (65536 + z) 0 * 256 + a % 256) 0) q
    ∙ ap (λ z. get_or cs (z * 256 + a % 256) 0) (sym e)
    ∙ ap (λ z. get_or cs (get_or ts (slot * 256 + z) 0 * 256 + a % 256) 0) (sym q)

-- the first p pages are in the present row, and the other rows are as they were
abbrev pub Flushing : (ws : List ℕ) (dirty : List Bool) (before : Pages) (p : ℕ) → Pages → Type 0
Flushing ws dirty before p ps =
    (256 ≤ vec_len ps.free + p)
    × ((a : ℕ) → a < p * 256 → held_word ps 256 a ≡ get_or ws a 0)
    × Clean ws dirty (vec_items ps.cells) (vec_items ps.tables)
    × ((row a : ℕ) → row < 256 → a < 65536 → held_word ps row a ≡ held_word before row a)

pub flushed_more : (ws : List ℕ) (dirty : List Bool) (before ps ps₁ : Pages) (p : ℕ) → p < 256 → vec_len ps.free ≡ vec_len ps₁.free + 1
    → Stored ws p (vec_items ps.cells) (vec_items ps.tables) (vec_items ps₁.cells) (vec_items ps₁.tables)
    → Flushing ws dirty before p ps → Flushing ws dirty before (p + 1) ps₁
flushed_more ws dirty before ps ps₁ p hp n s (room, front, clean, others) = (
  omega arith,
  stored_front ws (held_word ps) (held_word ps₁) p hp s front,
  stored_clean ws (held_word ps) (held_word ps₁) p hp s dirty clean,
  λ row a h ha. stored_others ws (held_word ps) (held_word ps₁) p hp s row a h ha ∙ others row a h ha,
)

pub flushed_already : (ws : List ℕ) (dirty : List Bool) (before ps : Pages) (p : ℕ) → p < 256 → get_or dirty p true ≡ false
    → Flushing ws dirty before p ps → Flushing ws dirty before (p + 1) ps
flushed_already ws dirty before ps p hp d (room, front, clean, others) = (omega arith, clean_front ws dirty (held_word ps) p hp d clean front, clean, others)

pub pick_same : {A : Type 0} (b : Bool) (x : A) → pick b x x ≡ x
pick_same true x = refl
pick_same false x = refl
