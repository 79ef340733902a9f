-- Writes of a plan as writes of the code.
use Rattle.std.proofs.Common.{◌≡◌, ℕ, zero, suc, ◌+◌, ◌≤◌, List, ◌∷◌, ◌++◌, length, take, drop, replicate, set, sym, refl, ap, ◌∙◌, arith, length-set}
use Rattle.std.proofs.lemmas.List.{take-append-drop, drop-drop, take-set-le, drop-set}
use Rattle.machine.specs.Engine.{written, gaps_shut}
use borrow.Rule.Slice.PartMut.{put_mid}

zeros_on : (n : ℕ) (xs : List ℕ) → 0 ∷ replicate n 0 ++ xs ≡ replicate n 0 ++ 0 ∷ xs
zeros_on zero xs = refl
zeros_on (suc n) xs = ap (λ r. 0 ∷ r) (zeros_on n xs)

-- the gaps of the lowest levels, shut at once
gaps_zero : (m : List ℕ) (n : ℕ) → 16 + n ≤ length m → take 16 m ++ (replicate n 0 ++ drop (16 + n) m) ≡ written (gaps_shut n) m
unfolding written gaps_shut
gaps_zero m zero h = take-append-drop 16 m
gaps_zero m (suc n) h =
    let k : List ℕ = set m (16 + n) 0 in
    let t : take 16 k ≡ take 16 m = take-set-le 16 m (16 + n) 0 (omega arith) in
    let e : 16 + n + 1 ≡ 16 + suc n = omega arith in
    let d : drop (16 + n) k ≡ 0 ∷ drop (16 + suc n) m = drop-set m (16 + n) 0 (omega (arith, h)) ∙ ap (λ j. 0 ∷ drop j m) e in
    ap (λ r. take 16 m ++ r) (zeros_on n (drop (16 + suc n) m))
    ∙ (sym (ap (λ r. take 16 k ++ (replicate n 0 ++ r)) d ∙ ap (λ r. r ++ (replicate n 0 ++ 0 ∷ drop (16 + suc n) m)) t)
    ∙ gaps_zero k n (omega (arith, h, length-set m (16 + n) 0)))

pub gaps_filled : (m zs : List ℕ) (n k : ℕ) → 16 + n ≤ length m → k ≡ n → zs ≡ replicate n 0 → put_mid 16 k m zs ≡ written (gaps_shut n) m
gaps_filled m zs n k h e z = rw (e, z, drop-drop n 16 m) (gaps_zero m n h)
