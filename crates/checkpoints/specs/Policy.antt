-- The mirror policy: which slot a time has, and what is done going forward and back. Every plan takes what is done after it, `rest`. Assumes nothing.
use Rattle.std.specs.Prelude.{ℕ, zero, suc, ◌+◌, ◌-◌, ◌*◌, ◌/◌, ◌%◌, min, cond, List, [], ◌∷◌, length, ◌==◌}
use Rattle.checkpoints.specs.Numbers.{stride, fan, level_slots, here, hit}
use Rattle.checkpoints.specs.Slots.{Act, take, go, keep}

-- A level v has a spacing g. Its point i of block q, at `time g q i`, has `slot v q i`: of ten slots, even blocks count up and odd ones down.
abbrev pub time : ℕ → ℕ → ℕ → ℕ
time g q i = (fan * q + i) * g

unfoldable pub slot : ℕ → ℕ → ℕ → ℕ
slot v q i = level_slots * v + cond (q % 2 == 0) i (fan + 1 - i)

-- at point i of block q: go on and keep the next j points
unfoldable pub lay : ℕ → ℕ → ℕ → ℕ → ℕ → List Act → List Act
lay v g q i zero rest = rest
lay v g q i (suc j) rest = go g ∷ keep (slot v q (suc i)) ∷ lay v g q (suc i) j rest

-- take up slot s, at time x, go on by f to point i of block q, and keep it and the next j points
unfoldable pub from : ℕ → ℕ → ℕ → ℕ → ℕ → ℕ → ℕ → ℕ → List Act → List Act
from v g s x q i f j rest = take s x ∷ go f ∷ keep (slot v q i) ∷ lay v g q i j rest

-- point i of block p is short by gap: go on to it, and keep the next j points
unfoldable pub finish : ℕ → ℕ → ℕ → ℕ → ℕ → ℕ → List Act → List Act
finish v g p i gap j rest = from v g (slot v p i) (time g p i - gap) p i gap j rest

-- it is short by gap: go on by n, if there is anything to go
unfoldable pub mend : ℕ → ℕ → ℕ → ℕ → ℕ → ℕ → List Act → List Act
mend v g p i gap zero rest = rest
mend v g p i gap (suc n) rest = take (slot v p i) (time g p i - gap) ∷ go (suc n) ∷ keep (slot v p i) ∷ rest

-- slot s of the level above has the start of block q: keep points 0 to j
unfoldable pub anew : ℕ → ℕ → ℕ → ℕ → ℕ → List Act → List Act
anew v g s q j rest = from v g s (time g q 0) q 0 0 j rest

-- at the point before i: go on, short of point i by gap, and keep that
unfoldable pub short : ℕ → ℕ → ℕ → ℕ → ℕ → List Act → List Act
short v g p i gap rest = go (g - gap) ∷ keep (slot v p i) ∷ rest

-- begin the block below block q: points 0 to k, and the next one, short by gap
unfoldable pub begin : ℕ → ℕ → (ℕ → ℕ) → ℕ → ℕ → ℕ → List Act → List Act
begin v g above zero k gap rest = rest
begin v g above (suc p) k gap rest = anew v g (above p) p k (short v g p (suc k) gap rest)

-- where a time is at a level: in block, past its point, by past; left is 7 - point
pub record Spot : Type 0 where
  pub block : ℕ
  pub point : ℕ
  pub left : ℕ
  pub past : ℕ

abbrev pub spot : ℕ → ℕ → Spot
spot n r = record { block = n / fan; point = n % fan; left = fan - 1 - n % fan; past = r }

-- the block below has points 0 to left, and the next one short by gap. Mend it for going back within the block, by j points, to past
unfoldable pub within : ℕ → ℕ → ℕ → ℕ → ℕ → ℕ → ℕ → List Act → List Act
within v g zero k gap past j rest = rest
within v g (suc p) k gap past zero rest = mend v g p (suc k) gap (gap - past) rest
within v g (suc p) k gap past (suc j) rest = finish v g p (suc k) gap j (short v g p (suc k + suc j) past rest)

-- from point m of the block above block p, finish block p
unfoldable pub whole : ℕ → ℕ → ℕ → ℕ → ℕ → ℕ → List Act → List Act
whole v g p k gap zero rest = rest
whole v g p k gap (suc j) rest = finish v g p (suc k) gap j rest

-- go back at one level from x to y, which is d blocks before
unfoldable pub level_back : ℕ → ℕ → (ℕ → ℕ) → ℕ → Spot → Spot → ℕ → List Act → List Act
level_back v g above gap x y zero rest = within v g y.block x.left gap y.past (x.point - y.point) rest
level_back v g above gap x y (suc zero) rest =
    whole v g y.block x.left gap x.point (begin v g above y.block y.left y.past rest)
level_back v g above gap x y (suc (suc d)) rest =
    anew v g (above y.block) y.block y.point (begin v g above y.block y.left y.past rest)

-- the gap then
unfoldable pub level_gap : ℕ → ℕ → ℕ → ℕ → ℕ
level_gap gap past zero zero = min gap past
level_gap gap past zero (suc j) = past
level_gap gap past (suc d) j = past

-- All levels, from v on: a list has the gap of each. The last one is followed by a top level that keeps everything, in as many slots as that takes.
-- The time is n * g + r.
unfoldable pub above : ℕ → List ℕ → ℕ → ℕ
above v [] n = level_slots * v + n
above v (s ∷ ss) n = slot v (n / fan) (n % fan)

unfoldable pub levels_back : ℕ → ℕ → ℕ → ℕ → ℕ → ℕ → List ℕ → List Act → List Act
levels_back v g n r n' r' [] rest = rest
levels_back v g n r n' r' (s ∷ ss) rest =
    levels_back (suc v) (fan * g) (n / fan) (n % fan * g + r) (n' / fan) (n' % fan * g + r') ss
    (level_back v g (above (suc v) ss) s (spot n r) (spot n' r') (n / fan - n' / fan) rest)

unfoldable pub levels_gaps : ℕ → ℕ → ℕ → ℕ → ℕ → List ℕ → List ℕ
levels_gaps g n r n' r' [] = []
levels_gaps g n r n' r' (s ∷ ss) =
    level_gap s r' (n / fan - n' / fan) (n % fan - n' % fan) ∷ levels_gaps (fan * g) (n / fan) (n % fan * g + r) (n' / fan) (n' % fan * g + r') ss

-- move all levels from t to u: what is kept for t becomes what is kept for u
unfoldable pub move_levels : ℕ → ℕ → List ℕ → List Act → List Act
move_levels t u ss rest = levels_back 0 stride (t / stride) (t % stride) (u / stride) (u % stride) ss rest

-- settle at u, from the last point of the lowest level
unfoldable pub settle : ℕ → List ℕ → List Act
settle u ss = take (above 0 ss (u / stride)) (u / stride * stride) ∷ go (u % stride) ∷ []

-- go back from t to u
unfoldable pub back : ℕ → ℕ → List ℕ → List Act
back t u ss = move_levels t u ss (settle u ss)

unfoldable pub back_gaps : ℕ → ℕ → List ℕ → List ℕ
back_gaps t u ss = levels_gaps stride (t / stride) (t % stride) (u / stride) (u % stride) ss

-- At time 0: keep it at each level. The gaps may be anything.
unfoldable pub start : ℕ → List ℕ → List Act → List Act
start v [] rest = keep (level_slots * v) ∷ rest
start v (s ∷ ss) rest = keep (slot v 0 0) ∷ start (suc v) ss rest

-- Back to 0, from any time: the top level has it.
unfoldable pub restart : List ℕ → List Act
restart ss = take (level_slots * length ss) 0 ∷ start 0 ss []

-- Going forward, point n of the level v is reached, point i of block q: keep it, and if it begins a block, also as what comes after the block below, and
-- at the level above.
unfoldable pub arrive_in : ℕ → ℕ → ℕ → (List Act → List Act) → List Act → List Act
arrive_in v q zero up rest = keep (slot v q 0) ∷ keep (slot v (q - 1) fan) ∷ up rest
arrive_in v q (suc i) up rest = keep (slot v q (suc i)) ∷ rest

unfoldable pub arrive : ℕ → ℕ → List ℕ → List Act → List Act
arrive v n [] rest = keep (level_slots * v + n) ∷ rest
arrive v n (s ∷ ss) rest = arrive_in v (n / fan) (n % fan) (arrive (suc v) (n / fan) ss) rest

unfoldable pub gaps_in : ℕ → List ℕ → List ℕ → List ℕ
gaps_in zero up ss = up
gaps_in (suc i) up ss = ss

unfoldable pub arrive_gaps : ℕ → List ℕ → List ℕ
arrive_gaps n [] = []
arrive_gaps n (s ∷ ss) = 0 ∷ gaps_in (n % fan) (arrive_gaps (n / fan) ss) ss

-- from n * 4096 + r go on by d, past j multiples of 4096
unfoldable pub strides : ℕ → ℕ → ℕ → ℕ → List ℕ → List Act → List Act
strides n r zero d ss rest = go d ∷ rest
strides n r (suc j) d ss rest = go (stride - r) ∷ arrive 0 (suc n) ss (strides (suc n) 0 j (d - (stride - r)) (arrive_gaps (suc n) ss) rest)

unfoldable pub strides_gaps : ℕ → ℕ → List ℕ → List ℕ
strides_gaps n zero ss = ss
strides_gaps n (suc j) ss = strides_gaps (suc n) j (arrive_gaps (suc n) ss)

-- go on from t to u
unfoldable pub forward : ℕ → ℕ → List ℕ → List Act
forward t u ss = strides (t / stride) (t % stride) (u / stride - t / stride) (u - t) ss []

unfoldable pub forward_gaps : ℕ → ℕ → List ℕ → List ℕ
forward_gaps t u ss = strides_gaps (t / stride) (u / stride - t / stride) ss

-- A kept state: its slot and its time.
pub record Kept : Type 0 where
  pub slot_is : ℕ
  pub time_is : ℕ

abbrev pub kept : ℕ → ℕ → Kept
kept k x = record { slot_is = k; time_is = x }

-- in the block p below, with points 0 to k and the next one short by gap: the last kept at or before point i, where that is e past k
unfoldable pub last_in : ℕ → ℕ → ℕ → ℕ → ℕ → ℕ → ℕ → Kept
last_in v g p k gap i zero = kept (slot v p i) (time g p i)
last_in v g p k gap i (suc e) = kept (slot v p (suc k)) (time g p (suc k) - gap)

-- a kept state at or before point n' of a level, which is d blocks before point n, where the time is
unfoldable pub last_at : ℕ → ℕ → ℕ → ℕ → ℕ → ℕ → Kept → Kept
last_at v g gap n n' zero far = kept (slot v (n' / fan) (n' % fan)) (time g (n' / fan) (n' % fan))
last_at v g gap n n' (suc zero) far = last_in v g (n' / fan) (fan - 1 - n % fan) gap (n' % fan) (n' % fan - (fan - 1 - n % fan))
last_at v g gap n n' (suc (suc d)) far = far

unfoldable pub last_from : ℕ → ℕ → List ℕ → ℕ → ℕ → Kept
last_from v g [] n n' = kept (level_slots * v + n') (n' * g)
last_from v g (s ∷ ss) n n' = last_at v g s n n' (n / fan - n' / fan) (last_from (suc v) (fan * g) ss (n / fan) (n' / fan))

-- the time is t: a kept state at or before y
unfoldable pub last_kept : List ℕ → ℕ → ℕ → Kept
last_kept ss t y = last_from 0 stride ss (t / stride) (y / stride)

-- Looking back. The time is t; from a kept state y go on to x, to look through what is between. What is looked for is at u, e after y: then keep it. It is before y: look on, by back.
unfoldable pub look_in : ℕ → ℕ → ℕ → ℕ → (List Act → List Act) → List Act → List Act
look_in u x y zero on rest = go (x - y) ∷ on rest
look_in u x y (suc e) on rest = go (suc e) ∷ keep hit ∷ go (x - u) ∷ rest

-- from x down, in at most f pieces; 0 is never found
unfoldable pub look : List ℕ → ℕ → ℕ → ℕ → ℕ → List Act → List Act
look ss t u zero x rest = rest
look ss t u (suc f) zero rest = rest
look ss t u (suc f) (suc y) rest =
    let k = last_kept ss t y in
    take k.slot_is k.time_is ∷ look_in u (suc y) k.time_is (u - k.time_is) (look ss t u f k.time_is) rest

-- the time is t, and what is looked for is at u, which isn't known beforehand
unfoldable pub search_back : ℕ → ℕ → List ℕ → List Act
search_back t u ss = look ss t u t t (move_levels t u ss (take hit u ∷ []))

-- and there is nothing
unfoldable pub search_none : ℕ → List ℕ → List Act
search_none t ss = keep here ∷ look ss t 0 t t (take here t ∷ [])

-- act number i of `lay`, where i < 2 * j
unfoldable pub lay_act : ℕ → ℕ → ℕ → ℕ → ℕ → Act
lay_act v g q p i = cond (i % 2 == 0) (go g) (keep (slot v q (suc p + i / 2)))
