-- Which pages are marked, how many, and those that are not. Assumes nothing.
use Rattle.std.proofs.Common.{◌≡◌, ℕ, zero, suc, ◌+◌, ◌<◌, ◌≤◌, Bool, true, false, eqb, List, [], ◌∷◌, ◌++◌, length, get_or, take, set, sym, refl, ap, ◌∙◌, add-one, arith, length-append}
use Rattle.std.proofs.lemmas.Bool.{eqb-true, eqb-false, false≢true}
use Rattle.std.proofs.lemmas.List.{get_or_append_left, get_or_push}
use Rattle.command.proofs.Picks.{by_test}
use Rattle.processor.specs.Pages.{marked, Gathered}

pub none_marked : (bs : List Bool) → ((k : ℕ) → k < length bs → get_or bs k false ≡ false) → marked bs ≡ 0
unfolding marked
none_marked [] f = refl
none_marked (true ∷ bs) f = absurd (false≢true (sym (f 0 (omega arith))))
none_marked (false ∷ bs) f = none_marked bs (λ k h. f (suc k) (omega arith))

pub one_marked : (bs : List Bool) (k : ℕ) → marked (set bs k true) ≤ marked bs + 1
unfolding marked
one_marked [] k = omega arith
one_marked (true ∷ bs) zero = omega arith
one_marked (false ∷ bs) zero = omega arith
one_marked (true ∷ bs) (suc k) = omega (arith, one_marked bs k)
one_marked (false ∷ bs) (suc k) = one_marked bs k

pub mark_stays : (bs : List Bool) (k x : ℕ) → get_or bs x false ≡ true → get_or (set bs k true) x false ≡ true
mark_stays [] k x h = h
mark_stays (b ∷ bs) zero zero h = refl
mark_stays (b ∷ bs) zero (suc x) h = h
mark_stays (b ∷ bs) (suc k) zero h = h
mark_stays (b ∷ bs) (suc k) (suc x) h = mark_stays bs k x h

pub mark_there : (bs : List Bool) (k : ℕ) → k < length bs → get_or (set bs k true) k false ≡ true
mark_there [] k h = absurd (omega arith)
mark_there (b ∷ bs) zero h = refl
mark_there (b ∷ bs) (suc k) h = mark_there bs k (omega arith)

-- one more is looked at
next_mark : (bs : List Bool) (k : ℕ) → k < length bs → get_or bs k false ≡ false → marked (take (suc k) bs) ≡ marked (take k bs)
unfolding marked
next_mark [] k h e = absurd (omega arith)
next_mark (true ∷ bs) zero h e = absurd (false≢true (sym e))
next_mark (false ∷ bs) zero h e = refl
next_mark (true ∷ bs) (suc k) h e = ap (λ n. 1 + n) (next_mark bs k (omega arith) e)
next_mark (false ∷ bs) (suc k) h e = next_mark bs k (omega arith) e

pub not_marked : (bs : List Bool) (k : ℕ) → k < length bs → get_or bs k false ≡ false → marked (take (k + 1) bs) ≡ marked (take k bs)
not_marked bs k h e = rw add-one (next_mark bs k h e)

more_mark : (bs : List Bool) (k : ℕ) → k < length bs → get_or bs k false ≡ true → marked (take (suc k) bs) ≡ suc (marked (take k bs))
unfolding marked
more_mark [] k h e = absurd (omega arith)
more_mark (true ∷ bs) zero h e = refl
more_mark (false ∷ bs) zero h e = absurd (false≢true e)
more_mark (true ∷ bs) (suc k) h e = let q = more_mark bs k (omega arith) e in omega arith
more_mark (false ∷ bs) (suc k) h e = more_mark bs k (omega arith) e

pub also_marked : (bs : List Bool) (k : ℕ) → k < length bs → get_or bs k false ≡ true → marked (take (k + 1) bs) ≡ marked (take k bs) + 1
also_marked bs k h e = rw (add-one k) (more_mark bs k h e ∙ sym (add-one (marked (take k bs))))

pub gathered_none : (used : List Bool) → Gathered used 0 []
gathered_none used = record { below = λ j h. absurd (omega arith); clear = λ j h. absurd (omega arith); distinct = λ i j p h. absurd (omega arith) }

pub gathered_skip : (used : List Bool) (k : ℕ) (fs : List ℕ) → Gathered used k fs → Gathered used (k + 1) fs
gathered_skip used k fs g = record { below = λ j h. omega (arith, g.below j h); clear = g.clear; distinct = g.distinct }

-- the last of one more, or one of those before
last_or : (P : ℕ → Type 0) (fs : List ℕ) (k : ℕ) → ((j : ℕ) → j < length fs → P (get_or fs j 0)) → P k → (j : ℕ) → j < length (fs ++ k ∷ []) → P (get_or (fs ++ k ∷ []) j 0)
last_or P [] k f g zero h = g
last_or P [] k f g (suc j) h = absurd (omega arith)
last_or P (x ∷ fs) k f g zero h = f 0 (omega arith)
last_or P (x ∷ fs) k f g (suc j) h = last_or P fs k (λ i p. f (suc i) (omega arith)) g j (omega arith)

pub gathered_push : (used : List Bool) (k : ℕ) (fs : List ℕ) → get_or used k false ≡ false → Gathered used k fs → Gathered used (k + 1) (fs ++ k ∷ [])
gathered_push used k fs e g =
    record {
      below = last_or (λ x. x < k + 1) fs k (λ j h. omega (arith, g.below j h)) (omega arith);
      clear = last_or (λ x. get_or used x false ≡ false) fs k g.clear e;
      distinct = λ i j p h.
          let lt : i < length fs = omega (arith, length-append fs (k ∷ [])) in
          by_test (eqb j (length fs))
          (λ (t : eqb j (length fs) ≡ true).
          let q = eqb-true j (length fs) t in
          λ same. let b = g.below i lt in let s : get_or fs i 0 ≡ k = sym (get_or_append_left fs (k ∷ []) 0 i lt) ∙ same ∙ get_or_push fs k 0 j (sym q) in omega arith)
          (λ (t : eqb j (length fs) ≡ false).
          let ne = eqb-false j (length fs) t in
          let lj : j < length fs = omega (arith, length-append fs (k ∷ [])) in
          λ same. g.distinct i j p lj (sym (get_or_append_left fs (k ∷ []) 0 i lt) ∙ same ∙ get_or_append_left fs (k ∷ []) 0 j lj));
    }
