-- The acts of beginning and of arriving by their numbers, and the gaps that become 0. Assumes nothing.
use Rattle.std.proofs.Common.{◌≡◌, ℕ, zero, suc, ◌+◌, ◌-◌, ◌*◌, ◌/◌, ◌%◌, ◌^◌, ◌<◌, ◌≤◌, min, Bool, true, false, cond, leb, List, [], ◌∷◌, ◌++◌, length, drop, replicate, Some, None, Option, refl, ap, ◌∙◌, arith}
use Rattle.std.specs.Int.Count.{count_trailing_zeros, under}
use Rattle.std.proofs.lemmas.Bool.{leb-true, leb-false}
use Rattle.checkpoints.specs.Numbers.{fan, levels, top_points}
use Rattle.checkpoints.specs.Slots.{Act, keep, act_at}
use Rattle.checkpoints.specs.Policy.{slot, start, arrive, arrive_in, gaps_in, arrive_gaps}
use Rattle.checkpoints.specs.Arrivals.{as_keep, SlotFew, beginning_slot, arrival_in, arrival_top, arrival_from, arrival_slot, reached_in, reached, levels_reached}
use Rattle.checkpoints.specs.Statements.{BeginsSo, ArrivesSo, ReachesSo}
use Rattle.checkpoints.proofs.Tables.{slot_small}
use Rattle.checkpoints.proofs.Stand.{room}

-- from the level v on, the keeps at time 0
begin_some : (ss : List ℕ) (v i : ℕ) → i ≤ length ss → act_at (start v ss []) i ≡ Some (keep (10 * (v + i)))
unfolding act_at start slot
begin_some [] v zero h = ap (λ k. Some (keep k)) (omega arith)
begin_some [] v (suc i) h = absurd (omega arith)
begin_some (s ∷ ss) v zero h = ap (λ k. Some (keep k)) (omega arith)
begin_some (s ∷ ss) v (suc i) h = begin_some ss (suc v) i (omega arith) ∙ ap (λ k. Some (keep k)) (omega arith)

begin_none : (ss : List ℕ) (v i : ℕ) → length ss < i → act_at (start v ss []) i ≡ None
unfolding act_at start
begin_none ss v zero h = absurd (omega arith)
begin_none [] v (suc i) h = refl
begin_none (s ∷ ss) v (suc i) h = begin_none ss (suc v) i (omega arith)

pub begins_so : BeginsSo
unfolding BeginsSo beginning_slot as_keep
begins_so ss i g = by_count (leb i 15) refl
  where
    by_count : (b : Bool) → leb i 15 ≡ b → act_at (start 0 ss []) i ≡ as_keep (cond b (Some (10 * i)) None)
    by_count true e = begin_some ss 0 i (omega (arith, leb-true i 15 e, g.count)) ∙ ap (λ k. Some (keep k)) (omega arith)
    by_count false e = begin_none ss 0 i (omega (arith, leb-false i 15 e, g.count))

-- at one level, and what the level above keeps
in_acts : (v q m i : ℕ) (up : List Act → List Act) (ups : ℕ → Option ℕ) → ((j : ℕ) → act_at (up []) j ≡ as_keep (ups j)) →
    act_at (arrive_in v q m up []) i ≡ as_keep (arrival_in v q m i ups)
unfolding act_at arrive_in as_keep arrival_in
in_acts v q zero zero up ups h = refl
in_acts v q zero (suc zero) up ups h = refl
in_acts v q zero (suc (suc i)) up ups h = h i
in_acts v q (suc m) zero up ups h = refl
in_acts v q (suc m) (suc i) up ups h = refl

arrive_acts : (ss : List ℕ) (v n i : ℕ) → n < top_points * fan ^ length ss → act_at (arrive v n ss []) i ≡ as_keep (arrival_from (length ss) v n i)
unfolding act_at arrive as_keep arrival_from arrival_top
arrive_acts [] v n zero h = ap (λ k. Some (keep k)) (omega arith)
arrive_acts [] v n (suc i) h = refl
arrive_acts (s ∷ ss) v n i h =
    let h' : n < 30 * 8 ^ suc (length ss) = h in
    in_acts v (n / 8) (n % 8) i (arrive (suc v) (n / 8) ss) (arrival_from (length ss) (suc v) (n / 8)) (λ j. arrive_acts ss (suc v) (n / 8) j (omega arith))

pub arrives_so : ArrivesSo
unfolding ArrivesSo arrival_slot
arrives_so n i ss g h = arrive_acts ss 0 n i (room n ss g h) ∙ ap (λ l. as_keep (arrival_from l 0 n i)) g.count

-- slots are few
in_few : (v q m i : ℕ) (up : ℕ → Option ℕ) → v < levels → m ≤ 9 → ((j : ℕ) → SlotFew (up j)) → SlotFew (arrival_in v q m i up)
unfolding arrival_in
in_few v q m zero up low hm h = slot_small v low q m hm
in_few v q zero (suc zero) up low hm h = slot_small v low (q - 1) 8 (omega arith)
in_few v q zero (suc (suc i)) up low hm h = h i
in_few v q (suc m) (suc i) up low hm h = tt

from_few : (l v n i : ℕ) → v + l ≤ levels → SlotFew (arrival_from l v n i)
unfolding arrival_from arrival_top
from_few zero v n zero h = omega arith
from_few zero v n (suc i) h = tt
from_few (suc l) v n i h = in_few v (n / 8) (n % 8) i (arrival_from l (suc v) (n / 8)) (omega arith) (omega arith) (λ j. from_few l (suc v) (n / 8) j (omega arith))

pub arrival_few : (n i : ℕ) → SlotFew (arrival_slot n i)
unfolding arrival_slot
arrival_few n i = from_few 15 0 n i (omega arith)

pub beginning_few : (i : ℕ) → SlotFew (beginning_slot i)
unfolding beginning_slot
beginning_few i = few (leb i 15) refl
  where
    few : (b : Bool) → leb i 15 ≡ b → SlotFew (cond b (Some (10 * i)) None)
    few true e = omega (arith, leb-true i 15 e)
    few false e = tt

-- gaps of the levels that are reached
reach_gaps : (ss : List ℕ) (n : ℕ) → arrive_gaps n ss ≡ replicate (reached (length ss) n) 0 ++ drop (reached (length ss) n) ss
unfolding arrive_gaps reached gaps_in reached_in
reach_gaps [] n = refl
reach_gaps (s ∷ ss) n = ap (λ x. 0 ∷ x) (within (n % 8) (reach_gaps ss (n / 8)))
  where
    within : (m : ℕ) → arrive_gaps (n / 8) ss ≡ replicate (reached (length ss) (n / 8)) 0 ++ drop (reached (length ss) (n / 8)) ss →
        gaps_in m (arrive_gaps (n / 8) ss) ss ≡ replicate (reached_in m (reached (length ss) (n / 8))) 0 ++ drop (reached_in m (reached (length ss) (n / 8))) ss
    within zero up = up
    within (suc m) up = refl

pub reached_most : (l n : ℕ) → reached l n ≤ l
unfolding reached reached_in
reached_most zero n = omega arith
reached_most (suc l) n = within (n % 8) (reached_most l (n / 8))
  where
    within : (m : ℕ) → reached l (n / 8) ≤ l → suc (reached_in m (reached l (n / 8))) ≤ suc l
    within zero up = omega arith
    within (suc m) up = omega arith

reached_some : (l n : ℕ) → 0 < reached (suc l) n
unfolding reached
reached_some l n = omega arith

pub reaches_so : ReachesSo
unfolding ReachesSo levels_reached
reaches_so n ss g = (reached_some 14 n, reached_most 15 n, reach_gaps ss n ∙ ap (λ l. replicate (reached l n) 0 ++ drop (reached l n) ss) g.count)

-- One turn of a loop over the levels, with 15 - v of them left.
pub at_point : (v n i : ℕ) → v < 15 → i ≡ 0 → arrival_from (15 - v) v n i ≡ Some (slot v (n / 8) (n % 8))
unfolding arrival_from arrival_in
at_point v n i h e = let l : 15 - v ≡ suc (14 - v) = omega arith in rw (l, e)

pub in_block : (v n i : ℕ) → v < 15 → (i ≡ 0 → ⊥) → (n % 8 ≡ 0 → ⊥) → arrival_from (15 - v) v n i ≡ None
unfolding arrival_from arrival_in
in_block v n i h hi hm =
    let l : 15 - v ≡ suc (14 - v) = omega arith in
    let e : i ≡ suc (i - 1) = omega arith in
    let m : n % 8 ≡ suc (n % 8 - 1) = omega arith in
    ap (λ x. arrival_from x v n i) l ∙ (λ k. arrival_in v (n / 8) (m k) (e k) (arrival_from (14 - v) (suc v) (n / 8)))

pub at_end : (v n i : ℕ) → v < 15 → i ≡ 1 → n % 8 ≡ 0 → arrival_from (15 - v) v n i ≡ Some (slot v (n / 8 - 1) 8)
unfolding arrival_from arrival_in
at_end v n i h e m =
    let l : 15 - v ≡ suc (14 - v) = omega arith in
    ap (λ x. arrival_from x v n i) l ∙ (λ k. arrival_in v (n / 8) (m k) (e k) (arrival_from (14 - v) (suc v) (n / 8)))

pub above_keeps : (v n i : ℕ) → v < 15 → 2 ≤ i → n % 8 ≡ 0 → arrival_from (15 - v) v n i ≡ arrival_from (15 - (v + 1)) (v + 1) (n / 8) (i - 2)
unfolding arrival_from arrival_in
above_keeps v n i h hi m =
    let l : 15 - v ≡ suc (14 - v) = omega arith in
    let e : i ≡ suc (suc (i - 2)) = omega arith in
    let l' : 14 - v ≡ 15 - (v + 1) = omega arith in
    let w : suc v ≡ v + 1 = omega arith in
    ap (λ x. arrival_from x v n i) l ∙ (λ k. arrival_in v (n / 8) (m k) (e k) (arrival_from (14 - v) (suc v) (n / 8))) ∙ (λ k. arrival_from (l' k) (w k) (n / 8) (i - 2))

pub at_top : (v n i : ℕ) → v ≡ 15 → arrival_from (15 - v) v n i ≡ arrival_top 15 n i
unfolding arrival_from
at_top v n i e = rw e

pub top_point : (n i : ℕ) → i ≡ 0 → arrival_top 15 n i ≡ Some (150 + n % 30)
unfolding arrival_top
top_point n i e = rw e

pub past_top : (n i : ℕ) → (i ≡ 0 → ⊥) → arrival_top 15 n i ≡ None
unfolding arrival_top
past_top n i h = let e : i ≡ suc (i - 1) = omega arith in ap (arrival_top 15 n) e

-- Levels that are reached, by zeros at the end: three make a level.
three_more : (k n : ℕ) → n % 8 ≡ 0 → count_trailing_zeros (suc (suc (suc k))) n ≡ suc (suc (suc (count_trailing_zeros k (n / 8))))
unfolding count_trailing_zeros
three_more k n e =
    let a : n % 2 ≡ 0 = omega (arith, e) in
    let b : n / 2 % 2 ≡ 0 = omega (arith, e) in
    let c : n / 2 / 2 % 2 ≡ 0 = omega (arith, e) in
    let d : n / 2 / 2 / 2 ≡ n / 8 = omega arith in
    λ i. under (a i) (under (b i) (under (c i) (count_trailing_zeros k (d i))))

no_three : (k n : ℕ) → (n % 8 ≡ 0 → ⊥) → count_trailing_zeros (suc (suc (suc k))) n ≤ 2
unfolding count_trailing_zeros
no_three k n h = few (n % 2) (n / 2 % 2) (n / 2 / 2 % 2) (count_trailing_zeros k (n / 2 / 2 / 2)) (λ e. h (omega (arith, e)))
  where
    few : (a b c t : ℕ) → (a + 2 * b + 4 * c ≡ 0 → ⊥) → under a (under b (under c t)) ≤ 2
    few zero zero zero t h = absurd (h refl)
    few (suc a) b c t h = omega arith
    few zero (suc b) c t h = omega arith
    few zero zero (suc c) t h = omega arith

reached_zeros : (l k n : ℕ) → 3 * l ≤ k → reached l n ≡ min l (count_trailing_zeros k n / 3 + 1)
unfolding reached reached_in
reached_zeros zero k n h = omega arith
reached_zeros (suc l) k n h = by_point (n % 8) refl (reached_zeros l (k - 3) (n / 8) (omega arith))
  where
    k' : k ≡ suc (suc (suc (k - 3)))
    k' = omega arith

    by_point : (m : ℕ) → n % 8 ≡ m → reached l (n / 8) ≡ min l (count_trailing_zeros (k - 3) (n / 8) / 3 + 1) →
        suc (reached_in m (reached l (n / 8))) ≡ min (suc l) (count_trailing_zeros k n / 3 + 1)
    by_point zero e up = omega (arith, ap (λ x. count_trailing_zeros x n) k', three_more (k - 3) n e, up)
    by_point (suc m) e up = omega (arith, ap (λ x. count_trailing_zeros x n) k', no_three (k - 3) n (λ z. omega (arith, e, z)))

pub levels_by_zeros : (n : ℕ) → levels_reached n ≡ min 15 (count_trailing_zeros 64 n / 3 + 1)
unfolding levels_reached
levels_by_zeros n = reached_zeros 15 64 n (omega arith)

-- a turn of the loop of `arrival`, and what it answers
pub ruleset turns = (at_point, in_block, at_end, above_keeps, at_top, top_point, past_top, arrival_few)
