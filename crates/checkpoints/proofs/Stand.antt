-- The statements. Assumes nothing.
use Rattle.std.proofs.Common.{◌≡◌, ℕ, zero, suc, ◌+◌, ◌-◌, ◌*◌, ◌/◌, ◌%◌, ◌^◌, ◌<◌, ◌≤◌, List, [], ◌∷◌, length, replicate, refl, ap, ◌∙◌, subst₂, mul-le-mul_right, arith, None}
use Rattle.checkpoints.specs.Numbers.{most_time}
use Rattle.checkpoints.specs.Slots.{Runs}
use Rattle.checkpoints.specs.Policy.{gaps_in, arrive_gaps, strides_gaps, forward_gaps, level_gap, levels_gaps, back_gaps}
use Rattle.checkpoints.specs.Ready.{Levels, Ready}
use Rattle.checkpoints.specs.Statements.{Small, Gaps, SlotsApart, CanBeReady, Starts, Restarts, StaysReady, ArrivesReady, GoesForward, MovesLevels, Settles, GoesBack, KeptNear, FindsBack, FindsNone}
use Rattle.checkpoints.proofs.Tables.{slot_in, points_apart, blocks_apart}
use Rattle.checkpoints.proofs.Carried.{runs_end}
use Rattle.checkpoints.proofs.AllLevels.{move_runs, settle_runs, back_runs}
use Rattle.checkpoints.proofs.Forward.{ready_later, arrive_runs, arrive_length, forward_runs, start_runs, restart_runs}
use Rattle.checkpoints.proofs.Looking.{near_kept}
use Rattle.checkpoints.proofs.Search.{search_back_runs, search_none_runs}

-- gaps stay small
gap_small : (s r d j : ℕ) → level_gap s r d j ≤ r
unfolding level_gap
gap_small s r zero zero = omega arith
gap_small s r zero (suc j) = omega arith
gap_small s r (suc d) j = omega arith

back_small : (g n r n' r' : ℕ) (ss : List ℕ) → r' < g → (length (levels_gaps g n r n' r' ss) ≡ length ss) × Small g (levels_gaps g n r n' r' ss)
unfolding Small levels_gaps
back_small g n r n' r' [] h = (refl, tt)
back_small g n r n' r' (s ∷ ss) h =
    let l : n' % 8 ≤ 7 = omega arith in
    let b = back_small (8 * g) (n / 8) (n % 8 * g + r) (n' / 8) (n' % 8 * g + r') ss (omega (arith, mul-le-mul_right g l)) in
    (ap suc b.0, (omega (arith, gap_small s r' (n / 8 - n' / 8) (n % 8 - n' % 8)), b.1))

in_small : (g i : ℕ) (up ss : List ℕ) → Small g up → Small g ss → Small g (gaps_in i up ss)
unfolding gaps_in
in_small g zero up ss a b = a
in_small g (suc i) up ss a b = b

arrive_small : (g n : ℕ) (ss : List ℕ) → 0 < g → Small g ss → Small g (arrive_gaps n ss)
unfolding Small arrive_gaps
arrive_small g n [] h s = tt
arrive_small g n (x ∷ ss) h (s, sm) = (h, in_small (8 * g) (n % 8) _ ss (arrive_small (8 * g) (n / 8) ss (omega arith) sm) sm)

arrive_good : (n : ℕ) (ss : List ℕ) → Gaps ss → Gaps (arrive_gaps n ss)
arrive_good n ss g = record { count = arrive_length n ss ∙ g.count; small = arrive_small 4096 n ss (omega arith) g.small }

forward_good : (j n : ℕ) (ss : List ℕ) → Gaps ss → Gaps (strides_gaps n j ss)
unfolding strides_gaps
forward_good zero n ss g = g
forward_good (suc j) n ss g = forward_good j (suc n) _ (arrive_good (suc n) ss g)

-- the top level has room
pub room : (n : ℕ) (ss : List ℕ) → Gaps ss → n * 4096 < most_time → n < 30 * 8 ^ length ss
room n ss g h = rw g.count (omega arith)

pub slots_apart : SlotsApart
unfolding SlotsApart
slots_apart = (slot_in, points_apart, blocks_apart)

pub starts : Starts
unfolding Starts
starts ss T g = start_runs 0 ss T (omega arith)

pub restarts : Restarts
unfolding Restarts
restarts T t a ss g r = restart_runs 0 ss T t a (omega arith) r

pub stays_ready : StaysReady
unfolding StaysReady
stays_ready = ready_later

pub arrives_ready : ArrivesReady
unfolding ArrivesReady Ready Runs
arrives_ready T t n c ss g h e r = (
  arrive_good (suc n) ss g,
  arrive_runs 0 ss 0 4096 (omega arith) n (t % 4096) [] T (suc n * 4096) c _ (omega arith) (room (suc n) ss g h) refl (rw e at r)
      (λ T' l o.
      let en : suc n ≡ suc n * 4096 / 4096 = omega arith in
      let er : 0 ≡ suc n * 4096 % 4096 = omega arith in
      (refl, refl, subst₂ (λ m z. Levels 0 4096 T' m z (arrive_gaps (suc n) ss)) en er l)),
)

pub goes_forward : GoesForward
unfolding GoesForward forward_gaps
goes_forward T t u ss g le h r = (forward_good _ _ ss g, forward_runs t u ss T (omega arith) le (room (u / 4096) ss g (omega arith)) r)

back_good : (t u : ℕ) (ss : List ℕ) → Gaps ss → Gaps (back_gaps t u ss)
unfolding back_gaps
back_good t u ss g =
    let s = back_small 4096 (t / 4096) (t % 4096) (u / 4096) (u % 4096) ss (omega arith) in
    record { count = s.0 ∙ g.count; small = s.1 }

pub moves_levels : MovesLevels
unfolding MovesLevels Runs
moves_levels T t u a c ss g le r =
    (back_good t u ss g, move_runs t u ss T a c [] _ (omega (arith, g.count)) le r (λ T' a' c' e r' o. (rw g.count at e, r')))

pub settles : Settles
unfolding Settles
settles T u a c ss r = settle_runs u u ss T a c (omega arith) r

pub goes_back : GoesBack
unfolding GoesBack
goes_back T t u a ss g le r = (back_good t u ss g, rw g.count at (back_runs t u ss T a (omega arith) le r))

pub kept_near : KeptNear
unfolding KeptNear
kept_near T t y ss h r = let n = near_kept ss T t y h r in (n.holds, n.before, omega (arith, n.close))

pub finds_back : FindsBack
unfolding FindsBack
finds_back T t u a ss g h pos le r = rw g.count at (search_back_runs t u ss T a (omega arith) (room (t / 4096) ss g (omega arith)) pos le r)

pub finds_none : FindsNone
unfolding FindsNone
finds_none T t ss g h r = search_none_runs t ss T (omega arith) (room (t / 4096) ss g (omega arith)) r

pub can_be_ready : CanBeReady
unfolding CanBeReady Small Starts GoesForward
can_be_ready t h =
    let zeros : List ℕ = replicate 15 0 in
    let g : Gaps zeros = record { count = refl; small = omega arith } in
    let (T₀, a₀, c₀, r₀) = runs_end 0 _ (λ _. None) 0 0 _ (starts zeros (λ _. None) g) in
    let f = goes_forward T₀ 0 t zeros g (omega arith) h r₀.2 in
    let (T, a, c, r) = runs_end t _ T₀ 0 0 _ f.1 in
    (T, forward_gaps 0 t zeros, f.0, r.2)
