-- Rows of pages: a page is taken from the free ones, a row becomes another's, and what the pages then hold. Assumes nothing.
use Rattle.std.proofs.Common.{◌≡◌, ℕ, ◌+◌, ◌*◌, ◌/◌, ◌%◌, ◌<◌, ◌≤◌, Bool, true, false, ◌&&◌, eqb, List, [], ◌∷◌, ◌++◌, length, get_or, set, replicate, sym, refl, ap, ◌∙◌, subst, arith, length-append, get_or-set_other, get_or-set_same}
use Rattle.std.proofs.lemmas.Bool.{eqb-true, eqb-false, eq-eqb, ne_eqb, false≢true}
use Rattle.std.proofs.lemmas.List.{get_or_append_left, get_or_push}
use Rattle.command.specs.Machine.{pick}
use Rattle.command.proofs.Picks.{by_test}
use Rattle.processor.proofs.Defaults.{defaults_copies}
use Rattle.processor.specs.Pages.{Inside, FreeInside, Apart, Distinct, Gathered, Stored, page_word}

-- what is marked and what was gathered differ
pub gathered_apart : (used : List Bool) (tables free : List ℕ) → ((i : ℕ) → i < 65792 → get_or used (get_or tables i 0) false ≡ true) → Gathered used 73728 free → Apart tables free
gathered_apart used tables free all g i j hi hj e = false≢true (sym (g.clear j hj) ∙ ap (λ k. get_or used k false) (sym e) ∙ all i hi)

-- what holds of every number that the rows name holds of those that a row takes over
module _ (ts ts₁ : List ℕ) (to from : ℕ) (ht : to ≤ 256) (hf : from ≤ 256)
    (copied : (a : ℕ) → get_or ts₁ a 0 ≡ pick (eqb (a / 256) to) (get_or ts (from * 256 + a % 256) 0) (get_or ts a 0)) where
  pub copied_keeps : (P : ℕ → Type 0) → ((i : ℕ) → i < 65792 → P (get_or ts i 0)) → (i : ℕ) → i < 65792 → P (get_or ts₁ i 0)
  copied_keeps P f i h =
      by_test (eqb (i / 256) to)
      (λ (t : eqb (i / 256) to ≡ true). subst P (sym (copied i ∙ simp t)) (f (from * 256 + i % 256) (omega arith)))
      (λ (t : eqb (i / 256) to ≡ false). subst P (sym (copied i ∙ simp t)) (f i h))

  pub copied_apart : (fs : List ℕ) → Apart ts fs → Apart ts₁ fs
  copied_apart fs g i j hi = copied_keeps (λ x. j < length fs → x ≡ get_or fs j 0 → ⊥) (λ k hk. g k j hk) i hi

  pub copied_word : (cs : List ℕ) (j a : ℕ) → a < 65536 → page_word cs ts₁ j a ≡ pick (eqb j to) (page_word cs ts from a) (page_word cs ts j a)
  copied_word cs j a h =
      let d : (j * 256 + a / 256) / 256 ≡ j = omega arith in
      let r : (j * 256 + a / 256) % 256 ≡ a / 256 = omega arith in
      ap (λ e. get_or cs (e * 256 + a % 256) 0) (rw (d, r) at (copied (j * 256 + a / 256))) ∙ inner (eqb j to) _ _
    where
      inner : (b : Bool) (x y : ℕ) → get_or cs (pick b x y * 256 + a % 256) 0 ≡ pick b (get_or cs (x * 256 + a % 256) 0) (get_or cs (y * 256 + a % 256) 0)
      inner true x y = refl
      inner false x y = refl

-- the last free page is taken, and a row names it
module _ (ts fs fs₁ : List ℕ) (f k : ℕ) (hk : k < 65792) (long : length ts ≡ 65792) (took : fs ≡ fs₁ ++ f ∷ [])
    (inside : Inside ts) (free_inside : FreeInside fs) (apart : Apart ts fs) (distinct : Distinct fs) where
  here : length fs₁ < length fs
  here = omega (arith, ap length took, length-append fs₁ (f ∷ []))

  last_is : get_or fs (length fs₁) 0 ≡ f
  last_is = ap (λ z. get_or z (length fs₁) 0) took ∙ get_or_push fs₁ f 0 (length fs₁) refl

  rest_is : (j : ℕ) → j < length fs₁ → get_or fs j 0 ≡ get_or fs₁ j 0
  rest_is j h = ap (λ z. get_or z j 0) took ∙ get_or_append_left fs₁ (f ∷ []) 0 j h

  pub took_inside : f < 73728
  took_inside = omega (arith, free_inside (length fs₁) here, last_is)

  pub took_apart : (i : ℕ) → i < 65792 → get_or ts i 0 ≡ f → ⊥
  took_apart i h e = apart i (length fs₁) h here (e ∙ sym last_is)

  pub inside_then : Inside (set ts k f)
  inside_then i h =
      by_test (eqb i k)
      (λ (t : eqb i k ≡ true). let e = eqb-true i k t in let l : k < length ts = omega arith in rw e (subst (λ x. x < 73728) (sym (get_or-set_same ts k f 0 l)) took_inside))
      (λ (t : eqb i k ≡ false). subst (λ x. x < 73728) (sym (get_or-set_other ts k i f 0 (eqb-false i k t))) (inside i h))

  pub free_inside_then : FreeInside fs₁
  free_inside_then j h = subst (λ x. x < 73728) (rest_is j h) (free_inside j (omega (arith, here)))

  pub apart_then : Apart (set ts k f) fs₁
  apart_then i j hi hj e =
      by_test (eqb i k)
      (λ (t : eqb i k ≡ true).
      let q = eqb-true i k t in
      let l : k < length ts = omega arith in
      let n : get_or (set ts k f) i 0 ≡ f = ap (λ z. get_or (set ts k f) z 0) q ∙ get_or-set_same ts k f 0 l in
      distinct j (length fs₁) hj here (rest_is j hj ∙ sym e ∙ n ∙ sym last_is))
      (λ (t : eqb i k ≡ false).
      apart i j hi (omega (arith, here)) (sym (get_or-set_other ts k i f 0 (eqb-false i k t)) ∙ e ∙ sym (rest_is j hj)))

  pub distinct_then : Distinct fs₁
  distinct_then i j p h e = distinct i j p (omega (arith, here)) (rest_is i (omega arith) ∙ e ∙ sym (rest_is j h))

-- the page that was taken has the words' page, and no other page changed
module _ (ws cs cs₁ ts : List ℕ) (p f : ℕ) (hp : p < 256) (long : length ts ≡ 65792) (not_named : (i : ℕ) → i < 65792 → get_or ts i 0 ≡ f → ⊥)
    (copied : (a : ℕ) → get_or cs₁ a 0 ≡ pick (eqb (a / 256) f) (get_or ws (p * 256 + a % 256) 0) (get_or cs a 0)) where
  on_it : (a : ℕ) → a / 256 ≡ p → get_or cs₁ (f * 256 + a % 256) 0 ≡ get_or ws a 0
  on_it a e =
      let d : (f * 256 + a % 256) / 256 ≡ f = omega arith in
      let r : (f * 256 + a % 256) % 256 ≡ a % 256 = omega arith in
      let w : p * 256 + a % 256 ≡ a = omega arith in
      copied (f * 256 + a % 256) ∙ simp (d, r, eq-eqb f f refl, w)

  elsewhere : (e a : ℕ) → (e ≡ f → ⊥) → get_or cs₁ (e * 256 + a % 256) 0 ≡ get_or cs (e * 256 + a % 256) 0
  elsewhere e a ne =
      let d : (e * 256 + a % 256) / 256 ≡ e = omega arith in
      copied (e * 256 + a % 256) ∙ simp (d, ne_eqb e f ne)

  pub stored : Stored ws p cs ts cs₁ (set ts (65536 + p) f)
  stored row a hr ha =
      by_test (eqb (row * 256 + a / 256) (65536 + p))
      (λ (t : eqb (row * 256 + a / 256) (65536 + p) ≡ true).
      let q = eqb-true (row * 256 + a / 256) (65536 + p) t in
      let l : 65536 + p < length ts = omega arith in
      let r : row ≡ 256 = omega arith in
      let s : a / 256 ≡ p = omega arith in
      let n : get_or (set ts (65536 + p) f) (row * 256 + a / 256) 0 ≡ f = ap (λ z. get_or (set ts (65536 + p) f) z 0) q ∙ get_or-set_same ts (65536 + p) f 0 l in
      ap (λ z. get_or cs₁ (z * 256 + a % 256) 0) n ∙ on_it a s ∙ simp (eq-eqb row 256 r, eq-eqb (a / 256) p s))
      (λ (t : eqb (row * 256 + a / 256) (65536 + p) ≡ false).
      let ne = eqb-false (row * 256 + a / 256) (65536 + p) t in
      ap (λ z. get_or cs₁ (z * 256 + a % 256) 0) (get_or-set_other ts (65536 + p) (row * 256 + a / 256) f 0 ne)
      ∙ elsewhere (get_or ts (row * 256 + a / 256) 0) a (not_named (row * 256 + a / 256) (omega arith))
      ∙ other (eqb row 256) (eqb (a / 256) p) _ _ (eqb-true row 256) (eqb-true (a / 256) p) ne)
    where
      other : (b d : Bool) (x y : ℕ) → (b ≡ true → row ≡ 256) → (d ≡ true → a / 256 ≡ p) → (row * 256 + a / 256 ≡ 65536 + p → ⊥) → y ≡ pick (b && d) x y
      other true true x y g h ne = absurd (ne (let r = g refl in let s = h refl in omega arith))
      other true false x y g h ne = refl
      other false true x y g h ne = refl
      other false false x y g h ne = refl

pub zeros_inside : (ts : List ℕ) (n : ℕ) → ts ≡ replicate n 0 → Inside ts
zeros_inside ts n e i h = subst (λ z. get_or z i 0 < 73728) (sym e) (subst (λ z. z < 73728) (sym (defaults_copies {A = ℕ} n 0 i)) (omega arith))
