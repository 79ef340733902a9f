-- What the checkpoints are for: going on and back, and looking back, each within its steps. Each is a statement; a function of src/statements.rt has it as
-- its contract. Assumes nothing.
use Rattle.std.specs.Prelude.{◌≡◌, ℕ, suc, ◌+◌, ◌-◌, ◌*◌, ◌/◌, ◌<◌, ◌≤◌, max, ◌≢◌, List, [], ◌∷◌, ◌++◌, length, drop, replicate, Some}
use Rattle.checkpoints.specs.Numbers.{stride, fan, levels, level_slots, slots, most_time}
use Rattle.checkpoints.specs.Slots.{Table, Runs, Few, act_at}
use Rattle.checkpoints.specs.Policy.{slot, start, restart, arrive, arrive_gaps, forward, forward_gaps, move_levels, settle, back, back_gaps, last_kept, search_back, search_none}
use Rattle.checkpoints.specs.Arrivals.{as_keep, SlotFew, beginning_slot, arrival_slot, levels_reached}
use Rattle.checkpoints.specs.Ready.{Ready}

-- each gap is below its level's spacing
unfoldable pub Small : ℕ → List ℕ → Type 0
Small g [] = Unit
Small g (s ∷ ss) = (s < g) × Small (fan * g) ss

-- what memory has of the levels
pub record Gaps (ss : List ℕ) : Type 0 where
  pub count : length ss ≡ levels
  pub small : Small stride ss

-- A level's slots are its own, and apart as far as they are used at once.
unfoldable pub SlotsApart : Type 0
SlotsApart =
    ((v q i : ℕ) → i ≤ fan + 1 → (level_slots * v ≤ slot v q i) × (slot v q i < level_slots * v + level_slots))
    × ((v q i j : ℕ) → i ≤ fan + 1 → j ≤ fan + 1 → i ≢ j → slot v q i ≢ slot v q j)
    × ((v p i j : ℕ) → i + j ≤ fan → slot v (suc p) i ≢ slot v p j)

-- No plan keeps into or takes up a slot past the last, 181; nor do the single acts, whatever they are asked for.
unfoldable pub SlotsFew : Type 0
SlotsFew =
    ((T : Table) (t : ℕ) (ss : List ℕ) → Gaps ss → t < most_time → Ready T t ss →
    Few (start 0 ss []) × Few (restart ss) × Few (search_none t ss) × Few (settle t ss)
    × (suc (t / stride) * stride < most_time → Few (arrive 0 (suc (t / stride)) ss []))
    × ((u : ℕ) → t ≤ u → u < most_time → Few (forward t u ss))
    × ((u : ℕ) → u ≤ t → Few (move_levels t u ss []))
    × ((u : ℕ) → u ≤ t → Few (back t u ss))
    × ((u : ℕ) → 0 < u → u ≤ t → Few (search_back t u ss)))
    × ((n i : ℕ) → SlotFew (arrival_slot n i))
    × ((i : ℕ) → SlotFew (beginning_slot i))
    × ((ss : List ℕ) (t y : ℕ) → length ss ≡ levels → y < most_time → (last_kept ss t y).slot_is < slots)

-- There is a table for each time: so no two states that are to be kept at once share a slot.
unfoldable pub CanBeReady : Type 0
CanBeReady = (t : ℕ) → t < most_time → (T : Table) × (ss : List ℕ) × Gaps ss × Ready T t ss

unfoldable pub Starts : Type 0
Starts = (ss : List ℕ) (T : Table) → Gaps ss → Runs 0 (start 0 ss []) T 0 0 (λ T' a' c'. (a' ≡ 0) × (c' ≡ 0) × Ready T' 0 ss)

-- from any time to 0, to look for the first of something
unfoldable pub Restarts : Type 0
Restarts = (T : Table) (t a : ℕ) (ss : List ℕ) → Gaps ss → Ready T t ss → Runs 0 (restart ss) T a 0 (λ T' a' c'. (a' ≡ 0) × (c' ≡ 0) × Ready T' 0 ss)

-- Up to the next multiple of 4,096 nothing is to be done.
unfoldable pub StaysReady : Type 0
StaysReady = (T : Table) (t u : ℕ) (ss : List ℕ) → t ≤ u → u / stride ≡ t / stride → Ready T t ss → Ready T u ss

-- There a few states are kept, at no step.
unfoldable pub ArrivesReady : Type 0
ArrivesReady =
    (T : Table) (t n c : ℕ) (ss : List ℕ) → Gaps ss → suc n * stride < most_time → t / stride ≡ n → Ready T t ss →
    Gaps (arrive_gaps (suc n) ss)
    × Runs 0 (arrive 0 (suc n) ss []) T (suc n * stride) c (λ T' a' c'. (a' ≡ suc n * stride) × (c' ≡ c) × Ready T' (suc n * stride) (arrive_gaps (suc n) ss))

unfoldable pub GoesForward : Type 0
GoesForward =
    (T : Table) (t u : ℕ) (ss : List ℕ) → Gaps ss → t ≤ u → u < most_time → Ready T t ss →
    Gaps (forward_gaps t u ss) × Runs u (forward t u ss) T t 0 (λ T' a' c'. (a' ≡ u) × (c' ≡ u - t) × Ready T' u (forward_gaps t u ss))

-- Wherever the processor is, at a: all levels move from t to u, by at most fifteen steps for each step back. Two such moves one after the other cost what
-- the move over both may cost, so a move may be cut into moves.
unfoldable pub MovesLevels : Type 0
MovesLevels =
    (T : Table) (t u a c : ℕ) (ss : List ℕ) → Gaps ss → u ≤ t → Ready T t ss →
    Gaps (back_gaps t u ss) × Runs t (move_levels t u ss []) T a c (λ T' a' c'. (c' ≤ c + levels * (t - u)) × Ready T' u (back_gaps t u ss))

-- Where everything is ready for u, the processor comes to u in less than 4,096 steps.
unfoldable pub Settles : Type 0
Settles = (T : Table) (u a c : ℕ) (ss : List ℕ) → Ready T u ss → Runs u (settle u ss) T a c (λ T' a' c'. (a' ≡ u) × (c' < c + stride) × (T' ≡ T))

-- both
unfoldable pub GoesBack : Type 0
GoesBack =
    (T : Table) (t u a : ℕ) (ss : List ℕ) → Gaps ss → u ≤ t → Ready T t ss →
    Gaps (back_gaps t u ss) × Runs t (back t u ss) T a 0 (λ T' a' c'. (a' ≡ u) × (c' ≤ stride + levels * (t - u)) × Ready T' u (back_gaps t u ss))

-- before suc y
unfoldable pub KeptNear : Type 0
KeptNear =
    (T : Table) (t y : ℕ) (ss : List ℕ) → y < t → Ready T t ss →
    (T (last_kept ss t y).slot_is ≡ Some (last_kept ss t y).time_is)
    × ((last_kept ss t y).time_is ≤ y) × (suc y - (last_kept ss t y).time_is ≤ max stride (t - suc y))

unfoldable pub FindsBack : Type 0
FindsBack =
    (T : Table) (t u a : ℕ) (ss : List ℕ) → Gaps ss → t < most_time → 0 < u → u ≤ t → Ready T t ss →
    Runs t (search_back t u ss) T a 0 (λ T' a' c'. (a' ≡ u) × (c' ≤ stride + (levels + 2) * (t - u)) × Ready T' u (back_gaps t u ss))

unfoldable pub FindsNone : Type 0
FindsNone =
    (T : Table) (t : ℕ) (ss : List ℕ) → Gaps ss → t < most_time → Ready T t ss →
    Runs t (search_none t ss) T t 0 (λ T' a' c'. (a' ≡ t) × (c' ≡ t) × Ready T' t ss)

-- The acts of the plans that only keep, by their numbers.
unfoldable pub BeginsSo : Type 0
BeginsSo = (ss : List ℕ) (i : ℕ) → Gaps ss → act_at (start 0 ss []) i ≡ as_keep (beginning_slot i)

unfoldable pub ArrivesSo : Type 0
ArrivesSo = (n i : ℕ) (ss : List ℕ) → Gaps ss → n * stride < most_time → act_at (arrive 0 n ss []) i ≡ as_keep (arrival_slot n i)

-- Of the levels that are reached, at least one, the gaps become 0, and the others stay.
unfoldable pub ReachesSo : Type 0
ReachesSo =
    (n : ℕ) (ss : List ℕ) → Gaps ss →
    (0 < levels_reached n) × (levels_reached n ≤ levels) × (arrive_gaps n ss ≡ replicate (levels_reached n) 0 ++ drop (levels_reached n) ss)
