-- Looking back for what is at u. Assumes nothing.
use Rattle.std.proofs.Common.{◌≡◌, ℕ, zero, suc, ◌+◌, ◌-◌, ◌*◌, ◌/◌, ◌%◌, ◌^◌, ◌<◌, ◌≤◌, max, List, [], ◌∷◌, length, refl, ◌∙◌, arith}
use Rattle.checkpoints.specs.Numbers.{here, hit}
use Rattle.checkpoints.specs.Slots.{Table, put, Act, Runs}
use Rattle.checkpoints.specs.Policy.{spot, last_kept, look_in, look, search_back, search_none, back_gaps}
use Rattle.checkpoints.specs.Ready.{Levels, Ready}
use Rattle.checkpoints.proofs.Tables.{put_here, put_else}
use Rattle.checkpoints.proofs.Carried.{Goal}
use Rattle.checkpoints.proofs.AllLevels.{level_left, move_runs}
use Rattle.checkpoints.proofs.Looking.{near_kept}

-- what is ready speaks of no spare slot
levels_low : (v g : ℕ) (T T' : Table) (n r : ℕ) (ss : List ℕ) → v + length ss ≤ 15 → n < 30 * 8 ^ length ss → ((k : ℕ) → k < here → T' k ≡ T k) →
    Levels v g T n r ss → Levels v g T' n r ss
unfolding Levels
levels_low v g T T' n r [] hv hn o h = λ i hi. o _ (omega arith) ∙ h i hi
levels_low v g T T' n r (s ∷ ss) hv hn o (l, h) =
    let room : n < 30 * 8 ^ suc (length ss) = hn in (
      level_left v g T T' (spot n r) s (omega arith) (omega arith) (λ k lo hi. o k (omega arith)) l,
      levels_low (suc v) (8 * g) T T' (n / 8) (n % 8 * g + r) ss (omega arith) (omega arith) o h,
    )

pub ready_low : (T T' : Table) (t : ℕ) (ss : List ℕ) → length ss ≤ 15 → t / 4096 < 30 * 8 ^ length ss → ((k : ℕ) → k < here → T' k ≡ T k) → Ready T t ss → Ready T' t ss
unfolding Ready
ready_low T T' t ss hs ht o r = levels_low 0 4096 T T' (t / 4096) (t % 4096) ss (omega arith) ht o r

module _ (ss : List ℕ) (t u : ℕ) (T : Table) (ready : Ready T t ss) where
  -- a piece from z to suc y, where u may be
  piece_runs : (y z : ℕ) (on : List Act → List Act) (rest : List Act) (c : ℕ) (Q : Goal) (e : ℕ) →
      u - z ≡ e → z ≤ y → y < z + max 4096 (t - suc y) → u ≤ suc y → suc y ≤ t →
      (u ≤ z → Runs t (on rest) T (z + (suc y - z)) (c + (suc y - z)) Q) →
      ((a' c' : ℕ) → c' + u ≤ c + suc y + max 4096 (t - u) → Runs t rest (put T hit u) a' c' Q) →
      Runs t (look_in u (suc y) z e on rest) T z c Q
  unfolding look_in Runs
  piece_runs y z on rest c Q zero eu before close hu ht go_on h = (omega arith, go_on (omega arith))
  piece_runs y z on rest c Q (suc e) eu before close hu ht go_on h =
      let s : z + suc e ≡ u = omega arith in
      (omega arith, (omega arith, (omega arith, rw s (h _ _ (omega arith)))))

  -- it is found at u
  found_runs : (f x : ℕ) (rest : List Act) (a c : ℕ) (Q : Goal) → x ≤ f → x ≤ t → 0 < u → u ≤ x →
      ((a' c' : ℕ) → c' + u ≤ c + x + max 4096 (t - u) → Runs t rest (put T hit u) a' c' Q) → Runs t (look ss t u f x rest) T a c Q
  unfolding look Runs
  found_runs zero x rest a c Q hf ht pos hu h = absurd (omega arith)
  found_runs (suc f) zero rest a c Q hf ht pos hu h = absurd (omega arith)
  found_runs (suc f) (suc y) rest a c Q hf ht pos hu h =
      let z = (last_kept ss t y).time_is in
      let near = near_kept ss T t y ht ready in (
        near.holds,
        piece_runs y z (look ss t u f z) rest c Q (u - z) refl near.before near.close hu ht
            (λ hz. found_runs f z rest _ _ Q (omega (arith, near.before)) (omega (arith, near.before)) pos hz (λ a' c' ec. h a' c' (omega (arith, near.before)))) h,
      )

-- there is nothing
none_runs : (ss : List ℕ) (t : ℕ) (T : Table) (ready : Ready T t ss) (f x : ℕ) (rest : List Act) (a c : ℕ) (Q : Goal) → x ≤ f → x ≤ t →
    ((a' : ℕ) → Runs t rest T a' (c + x) Q) → Runs t (look ss t 0 f x rest) T a c Q
unfolding look look_in Runs
none_runs ss t T ready zero x rest a c Q hf ht h = let z : c + x ≡ c = omega arith in rw z at (h a)
none_runs ss t T ready (suc f) zero rest a c Q hf ht h = let z : c + 0 ≡ c = omega arith in rw z at (h a)
none_runs ss t T ready (suc f) (suc y) rest a c Q hf ht h =
    let z = (last_kept ss t y).time_is in
    let near = near_kept ss T t y ht ready in
    let e : 0 - z ≡ 0 = omega arith in
    let s : c + (suc y - z) + z ≡ c + suc y = omega (arith, near.before) in
    (near.holds, rw e (omega (arith, near.before), none_runs ss t T ready f z rest _ _ Q (omega (arith, near.before)) (omega (arith, near.before)) (λ a'. rw s (h a'))))

pub search_back_runs : (t u : ℕ) (ss : List ℕ) (T : Table) (a : ℕ) → length ss ≤ 15 → t / 4096 < 30 * 8 ^ length ss → 0 < u → u ≤ t → Ready T t ss →
    Runs t (search_back t u ss) T a 0 (λ T' a' c'. (a' ≡ u) × (c' ≤ 4096 + (length ss + 2) * (t - u)) × Ready T' u (back_gaps t u ss))
unfolding search_back Runs
search_back_runs t u ss T a hs ht pos le ready =
    let T₁ = put T hit u in
    found_runs ss t u T ready t t _ a 0 _ (omega arith) (omega arith) pos le
    (λ a₁ c₁ e₁. move_runs t u ss T₁ a₁ c₁ _ _ hs le (ready_low T T₁ t ss hs ht (λ k hk. put_else T hit u k (omega arith)) ready)
    (λ T₂ a₂ c₂ e₂ r o. (o hit (omega arith) ∙ put_here T hit u, (refl, omega arith, r))))

pub search_none_runs : (t : ℕ) (ss : List ℕ) (T : Table) → length ss ≤ 15 → t / 4096 < 30 * 8 ^ length ss → Ready T t ss →
    Runs t (search_none t ss) T t 0 (λ T' a' c'. (a' ≡ t) × (c' ≡ t) × Ready T' t ss)
unfolding search_none Runs
search_none_runs t ss T hs ht ready =
    let T₁ = put T here t in
    let r₁ = ready_low T T₁ t ss hs ht (λ k hk. put_else T here t k (omega arith)) ready in
    (omega arith, none_runs ss t T₁ r₁ t t _ t 0 _ (omega arith) (omega arith) (λ a'. (put_here T here t, (refl, omega arith, r₁))))
