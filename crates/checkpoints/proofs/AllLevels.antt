-- All levels go back, the highest first. Assumes nothing.
use Rattle.std.proofs.Common.{◌≡◌, ℕ, zero, suc, ◌+◌, ◌-◌, ◌*◌, ◌/◌, ◌%◌, ◌<◌, ◌≤◌, ◌≢◌, ◌⊎◌, List, [], ◌∷◌, length, sym, refl, ap, ◌∙◌, subst, inl, inr, ⊎_elim, mul-le-mul_right, arith, Some}
use Rattle.std.proofs.lemmas.Bool.{cases_eq, cases_lt}
use Rattle.checkpoints.specs.Slots.{Table, Act, take, go, Runs}
use Rattle.checkpoints.specs.Policy.{Spot, spot, above, levels_back, levels_gaps, move_levels, settle, back, back_gaps}
use Rattle.checkpoints.specs.Ready.{Points, Below, Level, Levels, Ready}
use Rattle.checkpoints.proofs.Tables.{slot_in}
use Rattle.checkpoints.proofs.Carried.{Goal, runs_less}
use Rattle.checkpoints.proofs.Plans.{Over}
use Rattle.checkpoints.proofs.OneLevel.{time_of, Fits, Before, level_runs}

-- an earlier time has no greater number
pub number_le : (g n r n' r' : ℕ) → r < g → n' * g + r' ≤ n * g + r → n' ≤ n
number_le g n r n' r' h e = ⊎_elim (λ (l : n < n'). absurd (omega (arith, mul-le-mul_right g l))) (λ l. l) (cases_lt n n')

-- a level speaks of its own slots only
points_left : (v g : ℕ) (T T' : Table) (q n : ℕ) → n ≤ 9 → ((k : ℕ) → 10 * v ≤ k → k < 10 * v + 10 → T' k ≡ T k) → Points v g T q n → Points v g T' q n
points_left v g T T' q n h o ps i hi = let b = slot_in v q i (omega arith) in o _ b.0 b.1 ∙ ps i hi

below_left : (v g : ℕ) (T T' : Table) (q k past gap : ℕ) → k < 9 → ((j : ℕ) → 10 * v ≤ j → j < 10 * v + 10 → T' j ≡ T j) →
    Below v g T q k past gap → Below v g T' q k past gap
unfolding Below
below_left v g T T' zero k past gap h o b = tt
below_left v g T T' (suc p) k past gap h o b = record {
  points = points_left v g T T' p k (omega arith) o b.points;
  next = let s = slot_in v p (suc k) (omega arith) in o _ s.0 s.1 ∙ b.next;
  near = b.near;
}

pub level_left : (v g : ℕ) (T T' : Table) (x : Spot) (s : ℕ) → x.point ≤ 7 → x.left ≤ 7 → ((k : ℕ) → 10 * v ≤ k → k < 10 * v + 10 → T' k ≡ T k) →
    Level v g T x s → Level v g T' x s
level_left v g T T' x s hp hl o l = record {
  main = points_left v g T T' x.block x.point (omega arith) o l.main;
  below = below_left v g T T' x.block x.left x.past s (omega arith) o l.below;
}

pub levels_left : (v g : ℕ) (T T' : Table) (n r : ℕ) (ss : List ℕ) → ((k : ℕ) → 10 * v ≤ k → T' k ≡ T k) → Levels v g T n r ss → Levels v g T' n r ss
unfolding Levels
levels_left v g T T' n r [] o h = λ i hi. o _ (omega arith) ∙ h i hi
levels_left v g T T' n r (s ∷ ss) o (l, h) =
    (level_left v g T T' (spot n r) s (omega arith) (omega arith) (λ k lo hi. o k lo) l, levels_left (suc v) (8 * g) T T' (n / 8) (n % 8 * g + r) ss (λ k lo. o k (omega arith)) h)

-- the last point at or before the time, and the one before that, are kept
pub last_two : (v g : ℕ) (T : Table) (n r : ℕ) (ss : List ℕ) (i : ℕ) → i ≤ n → n ≤ suc i → Levels v g T n r ss → T (above v ss i) ≡ Some (i * g)
unfolding Levels above Below
last_two v g T n r [] i lo hi h = h i lo
last_two v g T n r (s ∷ ss) i lo hi (l, h) =
    ⊎_elim (λ (e : n / 8 ≡ i / 8). subst (λ q. Points v g T q (n % 8)) e l.main (i % 8) (omega arith))
    (λ (d : n / 8 ≢ i / 8). let e : n / 8 ≡ suc (i / 8) = omega arith in
    let b : Below v g T (suc (i / 8)) (7 - n % 8) r s = subst (λ q. Below v g T q (7 - n % 8) r s) e l.below in
    b.points (i % 8) (omega arith)) (cases_eq (n / 8) (i / 8))
    ∙ ap (λ (k : ℕ). Some (k * g)) (omega arith)

above_far : (v : ℕ) (ss : List ℕ) (i : ℕ) → 10 * v ≤ above v ss i
unfolding above
above_far v [] i = omega arith
above_far v (s ∷ ss) i = (slot_in v (i / 8) (i % 8) (omega arith)).0

pub above_gaps : (v g n r n' r' : ℕ) (ss : List ℕ) (i : ℕ) → above v (levels_gaps g n r n' r' ss) i ≡ above v ss i
unfolding above levels_gaps
above_gaps v g n r n' r' [] i = refl
above_gaps v g n r n' r' (s ∷ ss) i = refl

over : (v g : ℕ) (low : v < 15) (far : ℕ) (T : Table) (n r : ℕ) (ss : List ℕ) (i : ℕ) → i ≤ n → n ≤ suc i → Levels (suc v) (8 * g) T n r ss →
    Over v g low far (above (suc v) ss) T i
over v g low far T n r ss i lo hi h = (omega (arith, above_far (suc v) ss i), last_two (suc v) (8 * g) T n r ss i lo hi h ∙ ap Some (omega arith))

-- t is n * g + r, with r below g
pub record Is (g t n r : ℕ) : Type 0 where
  pub sum : t ≡ n * g + r
  pub rest : r < g

pub is_up : (g t n r : ℕ) → Is g t n r → Is (8 * g) t (n / 8) (n % 8 * g + r)
is_up g t n r i =
    let e : n ≡ 8 * (n / 8) + n % 8 = omega arith in
    let s : n % 8 ≤ 7 = omega arith in
    record { sum = omega (arith, i.sum, ap (λ z. z * g) e); rest = omega (arith, i.rest, mul-le-mul_right g s) }

fits : (g t n r : ℕ) → Is g t n r → Fits g (spot n r)
fits g t n r i = record { seven = omega arith; within = i.rest }

before : (g t u n r n' r' : ℕ) → u ≤ t → Is g t n r → Is g u n' r' → Before (spot n r) (spot n' r') (n / 8 - n' / 8)
before g t u n r n' r' le it iu =
    let h : n' ≤ n = number_le g n r n' r' it.rest (omega arith) in
    record {
      blocks = omega arith;
      points = λ e. omega arith;
      pasts = λ e f. let s : n' ≡ n = omega arith in omega (arith, ap (λ z. z * g) s);
    }

spot_time : (g t n r : ℕ) → Is g t n r → time_of g (spot n r) ≡ t
spot_time g t n r i = let e : 8 * (n / 8) + n % 8 ≡ n = omega arith in ap (λ z. z * g + r) e ∙ sym i.sum

pub levels_run : (far : ℕ) (ss : List ℕ) (v g t u n r n' r' : ℕ) (rest : List Act) (T : Table) (a c : ℕ) (Q : Goal) →
    v + length ss ≤ 15 → t ≤ far → u ≤ t → Is g t n r → Is g u n' r' → Levels v g T n r ss →
    ((T' : Table) (a' c' : ℕ) → c' + length ss * u ≤ c + length ss * t → Levels v g T' n' r' (levels_gaps g n r n' r' ss) → ((k : ℕ) → (k < 10 * v) ⊎ (10 * (v + length ss) ≤ k) → T' k ≡ T k) →
    Runs far rest T' a' c' Q) →
    Runs far (levels_back v g n r n' r' ss rest) T a c Q
unfolding Levels levels_back levels_gaps
levels_run far [] v g t u n r n' r' rest T a c Q hv ht le it iu h f =
    let m : n' ≤ n = number_le g n r n' r' it.rest (omega arith) in
    f T a c (omega arith) (λ i hi. h i (omega arith)) (λ _ _. refl)
levels_run far (s ∷ ss) v g t u n r n' r' rest T a c Q hv ht le it iu (l, h) f =
    let low : v < 15 = omega arith in
    levels_run far ss (suc v) (8 * g) t u (n / 8) (n % 8 * g + r) (n' / 8) (n' % 8 * g + r') _ T a c Q (omega arith) ht le (is_up g t n r it) (is_up g u n' r' iu) h
    (λ T₁ a₁ c₁ e₁ h₁ o₁.
    let kept : (i : ℕ) → i ≤ n' / 8 → n' / 8 ≤ suc i → Over v g low far (above (suc v) ss) T₁ i =
    λ i lo hi. rw above_gaps at (over v g low far T₁ (n' / 8) (n' % 8 * g + r') _ i lo hi h₁) in
    level_runs v g low far (above (suc v) ss) s (spot n r) (spot n' r') (fits g t n r it) (fits g u n' r' iu) (n / 8 - n' / 8) rest T₁ a₁ c₁ Q
    (omega (arith, spot_time g t n r it)) (before g t u n r n' r' le it iu) (level_left v g T T₁ (spot n r) s (omega arith) (omega arith) (λ k lo hi. o₁ k (inl (omega arith))) l)
    (kept _ (omega arith) (omega arith)) (λ p ep. kept p (omega arith) (omega arith))
    (λ T₂ a₂ c₂ e₂ l₂ o₂. f T₂ a₂ c₂ (omega (arith, spot_time g t n r it, spot_time g u n' r' iu))
    (l₂, levels_left (suc v) (8 * g) T₁ T₂ _ _ _ (λ k lo. o₂ k (inr (omega arith))) h₁)
    (λ k hk. o₂ k (⊎_elim inl (λ x. inr (omega arith)) hk) ∙ o₁ k (⊎_elim (λ x. inl (omega arith)) (λ x. inr (omega arith)) hk))))

-- All levels move from t to u, by as many steps for each step back as there are levels.
pub move_runs : (t u : ℕ) (ss : List ℕ) (T : Table) (a c : ℕ) (rest : List Act) (Q : Goal) → length ss ≤ 15 → u ≤ t → Ready T t ss →
    ((T' : Table) (a' c' : ℕ) → c' ≤ c + length ss * (t - u) → Ready T' u (back_gaps t u ss) → ((k : ℕ) → 10 * length ss ≤ k → T' k ≡ T k) → Runs t rest T' a' c' Q) →
    Runs t (move_levels t u ss rest) T a c Q
unfolding move_levels back_gaps Ready
move_runs t u ss T a c rest Q h le ready f =
    let d : t ≡ u + (t - u) = omega arith in
    levels_run t ss 0 4096 t u (t / 4096) (t % 4096) (u / 4096) (u % 4096) rest T a c Q (omega arith) (omega arith) le
    (record { sum = omega arith; rest = omega arith }) (record { sum = omega arith; rest = omega arith }) ready
    (λ T' a' c' e l o. f T' a' c' (omega (arith, ap (λ z. length ss * z) d)) l (λ k hk. o k (inr (omega arith))))

-- Where everything is ready for u, the processor comes there from the last point of the lowest level.
pub settle_runs : (far u : ℕ) (ss : List ℕ) (T : Table) (a c : ℕ) → u ≤ far → Ready T u ss → Runs far (settle u ss) T a c (λ T' a' c'. (a' ≡ u) × (c' < c + 4096) × (T' ≡ T))
unfolding settle Ready Runs
settle_runs far u ss T a c h l = (last_two 0 4096 T (u / 4096) (u % 4096) ss (u / 4096) (omega arith) (omega arith) l, (omega arith, (omega arith, omega arith, refl)))

-- it has no gaps in it
pub settle_gaps : (t u : ℕ) (ss : List ℕ) → settle u (back_gaps t u ss) ≡ settle u ss
unfolding settle back_gaps
settle_gaps t u ss = ap (λ k. take k (u / 4096 * 4096) ∷ go (u % 4096) ∷ []) (above_gaps 0 4096 (t / 4096) (t % 4096) (u / 4096) (u % 4096) ss (u / 4096))

pub back_runs : (t u : ℕ) (ss : List ℕ) (T : Table) (a : ℕ) → length ss ≤ 15 → u ≤ t → Ready T t ss →
    Runs t (back t u ss) T a 0 (λ T' a' c'. (a' ≡ u) × (c' ≤ 4096 + length ss * (t - u)) × Ready T' u (back_gaps t u ss))
unfolding back
back_runs t u ss T a h le ready =
    move_runs t u ss T a 0 (settle u ss) _ h le ready
    (λ T' a' c' e r o. runs_less t (settle u ss) T' a' c' _ _
    (λ T'' a'' c'' p. (p.0, omega (arith, p.1), subst (λ (z : Table). Ready z u (back_gaps t u ss)) (sym p.2) r))
    (subst (λ (z : List Act). Runs t z T' a' c' (λ T'' a'' c''. (a'' ≡ u) × (c'' < c' + 4096) × (T'' ≡ T'))) (settle_gaps t u ss) (settle_runs t u (back_gaps t u ss) T' a' c' le r)))
