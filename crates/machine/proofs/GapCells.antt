-- The gaps of the levels, as memory has them: a row of cells. What shutting some of them leaves. Assumes nothing.
use Rattle.std.proofs.Common.{◌≡◌, ℕ, zero, suc, ◌+◌, ◌<◌, ◌≤◌, Bool, eqb, List, [], ◌∷◌, ◌++◌, drop, replicate, sym, refl, ap, ◌∙◌, arith}
use Rattle.std.proofs.lemmas.Bool.{eqb-true, eqb-false, ne_eqb}
use Rattle.command.specs.Machine.{pick}
use Rattle.command.proofs.Picks.{by_test}
use Rattle.machine.specs.Engine.{cell, gap, gaps_shut}
use Rattle.machine.proofs.Memory.{after}

-- so many cells, from one on
unfoldable pub row : List ℕ → ℕ → ℕ → List ℕ
row m i zero = []
row m i (suc n) = cell m i ∷ row m (suc i) n

abbrev pub gaps_of : List ℕ → List ℕ
gaps_of m = row m (gap 0) 15

pub row_same : (m m₁ : List ℕ) (i n : ℕ) → ((j : ℕ) → i ≤ j → j < i + n → cell m₁ j ≡ cell m j) → row m₁ i n ≡ row m i n
unfolding row
row_same m m₁ i zero h = refl
row_same m m₁ i (suc n) h =
    let a = h i (omega arith) (omega arith) in
    let b = row_same m m₁ (suc i) n (λ j lo hi. h j (omega (arith, lo)) (omega (arith, hi))) in
    λ x. a x ∷ b x

-- the first r are 0, the others stay
pub row_shut : (m m₁ : List ℕ) (i r n : ℕ) → r ≤ n → ((j : ℕ) → i ≤ j → j < i + r → cell m₁ j ≡ 0) → ((j : ℕ) → i + r ≤ j → j < i + n → cell m₁ j ≡ cell m j) →
    row m₁ i n ≡ replicate r 0 ++ drop r (row m i n)
unfolding row
row_shut m m₁ i zero n l f g = row_same m m₁ i n (λ j lo hi. g j (omega (arith, lo)) hi)
row_shut m m₁ i (suc r) zero l f g = absurd (omega (arith, l))
row_shut m m₁ i (suc r) (suc n) l f g =
    let a = f i (omega arith) (omega arith) in
    let b = row_shut m m₁ (suc i) r n (omega (arith, l)) (λ j lo hi. f j (omega (arith, lo)) (omega (arith, hi))) (λ j lo hi. g j (omega (arith, lo)) (omega (arith, hi))) in
    λ x. a x ∷ b x

-- what a cell holds once the gaps of the first r levels are shut
pub after_shut_else : (r j v : ℕ) → ((i : ℕ) → i < r → j ≡ gap i → ⊥) → after (gaps_shut r) j v ≡ v
unfolding gaps_shut
after_shut_else zero j v h = refl
after_shut_else (suc r) j v h =
    ap (λ (b : Bool). after (gaps_shut r) j (pick b 0 v)) (ne_eqb (gap r) j (λ e. h r (omega arith) (sym e)))
    ∙ after_shut_else r j v (λ i l. h i (omega (arith, l)))

pub after_shut : (r j v : ℕ) → gap 0 ≤ j → j < gap r → after (gaps_shut r) j v ≡ 0
unfolding gaps_shut
after_shut zero j v lo hi = absurd (omega (arith, lo, hi))
after_shut (suc r) j v lo hi =
    by_test (eqb (gap r) j)
    (λ e.
    let is : gap r ≡ j = eqb-true (gap r) j e in
    ap (λ (b : Bool). after (gaps_shut r) j (pick b 0 v)) e ∙ after_shut_else r j 0 (λ i l q. omega (arith, is, l, q)))
    (λ e.
    let no : gap r ≡ j → ⊥ = eqb-false (gap r) j e in
    ap (λ (b : Bool). after (gaps_shut r) j (pick b 0 v)) e ∙ after_shut r j v lo (omega (arith, hi, no)))
