-- One turn of a loop over the levels: the last kept state. Assumes nothing.
use Rattle.std.proofs.Common.{◌≡◌, ℕ, zero, suc, ◌+◌, ◌-◌, ◌*◌, ◌/◌, ◌%◌, ◌^◌, ◌<◌, ◌≤◌, List, [], ◌∷◌, length, get_or, drop, ap, ◌∙◌, add-one, pow-suc, arith, drop-cons}
use native.Mathlib.Nat.{pow-le-pow_right, div-div-eq-div-mul}
use Rattle.std.proofs.lemmas.List.{drop_all}
use Rattle.checkpoints.specs.Numbers.{slots, most_time}
use Rattle.checkpoints.specs.Policy.{time, slot, Kept, kept, last_in, last_at, last_from, last_kept}
use Rattle.checkpoints.proofs.Tables.{slot_small}

whole : (k g : ℕ) → time g (k / 8) (k % 8) ≡ k * g
whole k g = let e : 8 * (k / 8) + k % 8 ≡ k = omega arith in ap (λ z. z * g) e

pub in_block : (v g s : ℕ) (ss : List ℕ) (n k : ℕ) → n / 8 - k / 8 ≡ 0 → last_from v g (s ∷ ss) n k ≡ kept (slot v (k / 8) (k % 8)) (k * g)
unfolding last_from last_at
in_block v g s ss n k e = rw e (ap (kept (slot v (k / 8) (k % 8))) (whole k g))

pub below_point : (v g s : ℕ) (ss : List ℕ) (n k : ℕ) → n / 8 - k / 8 ≡ 1 → k % 8 ≤ 7 - n % 8 → last_from v g (s ∷ ss) n k ≡ kept (slot v (k / 8) (k % 8)) (k * g)
unfolding last_from last_at last_in
below_point v g s ss n k e h = let z : k % 8 - (7 - n % 8) ≡ 0 = omega arith in rw (e, z) (ap (kept (slot v (k / 8) (k % 8))) (whole k g))

pub below_next : (v g s : ℕ) (ss : List ℕ) (n k : ℕ) → n / 8 - k / 8 ≡ 1 → 7 - n % 8 < k % 8 →
    last_from v g (s ∷ ss) n k ≡ kept (slot v (k / 8) (suc (7 - n % 8))) (time g (k / 8) (suc (7 - n % 8)) - s)
unfolding last_from last_at last_in
below_next v g s ss n k e h = let z : k % 8 - (7 - n % 8) ≡ suc (k % 8 - (7 - n % 8) - 1) = omega arith in rw (e, z)

pub level_up : (v g s : ℕ) (ss : List ℕ) (n k : ℕ) → 2 ≤ n / 8 - k / 8 → last_from v g (s ∷ ss) n k ≡ last_from (suc v) (8 * g) ss (n / 8) (k / 8)
unfolding last_from last_at
level_up v g s ss n k h = let z : n / 8 - k / 8 ≡ suc (suc (n / 8 - k / 8 - 2)) = omega arith in rw z

-- spacings of levels fit
pub spacing_small : (g v : ℕ) → v ≤ 15 → g ≡ 4096 * 8 ^ v → (g * 8 ≤ 1152921504606846976) × (0 < g)
spacing_small g v h e =
    let p : 8 ^ v ≤ 8 ^ 15 = pow-le-pow_right (omega arith) h in
    let z : 0 ≤ v = omega arith in
    let q : 8 ^ 0 ≤ 8 ^ v = pow-le-pow_right (omega arith) z in
    (omega arith, omega arith)

-- below the top level it is smaller still
pub spacing_below_top : (g v : ℕ) → v < 15 → g ≡ 4096 * 8 ^ v → (g * 8 ≤ 144115188075855872) × (0 < g)
spacing_below_top g v h e =
    let l : v ≤ 14 = omega arith in
    let p : 8 ^ v ≤ 8 ^ 14 = pow-le-pow_right (omega arith) l in
    let z : 0 ≤ v = omega arith in
    let q : 8 ^ 0 ≤ 8 ^ v = pow-le-pow_right (omega arith) z in
    (omega arith, omega arith)

pub spacing_up : (g v : ℕ) → g ≡ 4096 * 8 ^ v → g * 8 ≡ 4096 * 8 ^ (v + 1)
spacing_up g v e = rw (add-one, pow-suc) (omega arith)

in_few : (v g p k gap i e : ℕ) → v < 15 → k ≤ 7 → i ≤ 7 → (last_in v g p k gap i e).slot_is < slots
unfolding last_in
in_few v g p k gap i zero low hk hi = slot_small v low p i (omega arith)
in_few v g p k gap i (suc e) low hk hi = slot_small v low p (suc k) (omega arith)

at_few : (v g s n k d : ℕ) (far : Kept) → v < 15 → far.slot_is < slots → (last_at v g s n k d far).slot_is < slots
unfolding last_at
at_few v g s n k zero far low h = slot_small v low (k / 8) (k % 8) (omega arith)
at_few v g s n k (suc zero) far low h = in_few v g (k / 8) (7 - n % 8) s (k % 8) (k % 8 - (7 - n % 8)) low (omega arith) (omega arith)
at_few v g s n k (suc (suc d)) far low h = h

from_few : (ss : List ℕ) (v g n k : ℕ) → v + length ss ≤ 15 → k < 30 * 8 ^ length ss → (last_from v g ss n k).slot_is < slots
unfolding last_from
from_few [] v g n k h hk = omega arith
from_few (s ∷ ss) v g n k h hk =
    let hk' : k < 30 * 8 ^ suc (length ss) = hk in at_few v g s n k (n / 8 - k / 8) _ (omega arith) (from_few ss (suc v) (8 * g) (n / 8) (k / 8) (omega arith) (omega arith))

-- whatever the gaps are
pub last_few : (gaps : List ℕ) (t y : ℕ) → length gaps ≡ 15 → y < most_time → (last_kept gaps t y).slot_is < slots
unfolding last_kept
last_few gaps t y h hy = from_few gaps 0 4096 (t / 4096) (y / 4096) (omega arith) (rw h (omega arith))

-- with no gap more, the top level has it
pub at_top : (v g i : ℕ) (gaps : List ℕ) (n k : ℕ) → length gaps ≤ i → last_from v g (drop i gaps) n k ≡ kept (10 * v + k) (k * g)
unfolding last_from
at_top v g i gaps n k h = ap (λ z. last_from v g z n k) (drop_all i gaps h)

-- what a level says, and what those above say
pub ruleset one_level = (in_block, below_point, below_next, level_up, spacing_small)

pub ruleset all_levels = (spacing_small, spacing_up, drop-cons, at_top, last_few, div-div-eq-div-mul)
