-- On reaching a multiple of the spacing: what memory holds then, and that the keeps to come make the slots ready. Assumes nothing.
use Rattle.std.proofs.Common.{◌≡◌, ℕ, zero, suc, ◌+◌, ◌*◌, ◌/◌, ◌%◌, ◌<◌, ◌≤◌, List, [], ◌∷◌, ◌++◌, length, drop, replicate, Some, sym, refl, ◌∙◌, subst₂, mod-eq_of_lt, arith}
use Rattle.std.proofs.lemmas.Bool.{lt-ltb, ne_eqb}
use Rattle.command.specs.Machine.{pick}
use Rattle.checkpoints.specs.Numbers.{most_time}
use Rattle.checkpoints.specs.Slots.{Table, Act, Runs}
use Rattle.checkpoints.specs.Policy.{slot, arrive, arrive_in, arrive_gaps}
use Rattle.checkpoints.specs.Ready.{Ready}
use Rattle.checkpoints.specs.Arrivals.{arrival_slot, levels_reached}
use Rattle.checkpoints.specs.Statements.{Gaps, ArrivesReady, ReachesSo}
use Rattle.checkpoints.proofs.Stand.{arrives_ready}
use Rattle.checkpoints.proofs.Arriving.{reaches_so, at_point}
use Rattle.machine.specs.Engine.{Write, puts, written, cell, cells, limit, phase, time, fed, steps_left, cursor, keeping, spacing, gaps_shut}
use Rattle.machine.proofs.Memory.{length_written, cell_put}
use Rattle.machine.proofs.GapCells.{gaps_of, row_shut, after_shut, after_shut_else}

-- MEMORY, at a time that is such a multiple, with so many steps left
abbrev pub arrival_writes : ℕ → ℕ → List Write
arrival_writes now left = puts phase keeping ∷ puts cursor 1 ∷ puts time now ∷ puts steps_left left ∷ gaps_shut (levels_reached (now / spacing))

pub record Arrived (now left : ℕ) (m m₁ : List ℕ) : Type 0 where
  pub sized : length m₁ ≡ cells
  pub phase_is : cell m₁ phase ≡ keeping
  pub cursor_is : cell m₁ cursor ≡ 1
  pub time_is : cell m₁ time ≡ now
  pub left_is : cell m₁ steps_left ≡ left
  pub fed_is : cell m₁ fed ≡ cell m fed
  pub gaps_are : gaps_of m₁ ≡ arrive_gaps (now / spacing) (gaps_of m)

pub arrived_so : (now left : ℕ) (m : List ℕ) → length m ≡ cells → Gaps (gaps_of m) → now < limit → left < limit → Arrived now left m (written (arrival_writes now left) m)
unfolding ReachesSo
arrived_so now left m sz g small few =
    record {
      sized = length_written ws m ∙ sz;
      phase_is = cell_put ws m phase sz refl ∙ after_shut_else r phase _ (λ i l e. omega (arith, e));
      cursor_is = cell_put ws m cursor sz refl ∙ after_shut_else r cursor _ (λ i l e. omega (arith, e));
      time_is = cell_put ws m time sz refl ∙ after_shut_else r time _ (λ i l e. omega (arith, e)) ∙ mod-eq_of_lt small;
      left_is = cell_put ws m steps_left sz refl ∙ after_shut_else r steps_left _ (λ i l e. omega (arith, e)) ∙ mod-eq_of_lt few;
      fed_is = cell_put ws m fed sz refl ∙ after_shut_else r fed _ (λ i l e. omega (arith, e));
      gaps_are = row_shut m (written ws m) 16 r 15 some_shut.1 shut others ∙ sym some_shut.2;
    }
  where
    ws : List Write
    ws = arrival_writes now left

    r : ℕ
    r = levels_reached (now / spacing)

    some_shut : (0 < r) × (r ≤ 15) × (arrive_gaps (now / spacing) (gaps_of m) ≡ replicate r 0 ++ drop r (gaps_of m))
    some_shut = reaches_so (now / spacing) (gaps_of m) g

    shut : (j : ℕ) → 16 ≤ j → j < 16 + r → cell (written ws m) j ≡ 0
    shut j lo hi = cell_put ws m j sz (lt-ltb j cells (omega (arith, hi, some_shut.1))) ∙ after_shut r j _ lo hi

    others : (j : ℕ) → 16 + r ≤ j → j < 16 + 15 → cell (written ws m) j ≡ cell m j
    others j lo hi =
        cell_put ws m j sz (lt-ltb j cells (omega (arith, hi)))
        ∙ after_shut_else r j _ (λ i l e. omega (arith, e, l, lo))
        ∙ (let a = ne_eqb phase j (λ e. omega (arith, e, lo)) in
        let b = ne_eqb cursor j (λ e. omega (arith, e, lo)) in
        let c = ne_eqb time j (λ e. omega (arith, e, lo)) in
        let d = ne_eqb steps_left j (λ e. omega (arith, e, lo)) in
        λ i. pick (d i) (left % limit) (pick (c i) (now % limit) (pick (b i) (1 % limit) (pick (a i) (keeping % limit) (cell m j)))))

-- THE KEEPS to come, few, at no step, make the slots ready
arrive_in_few : (v q i l : ℕ) (up : List Act → List Act) → length (up []) ≤ l → length (arrive_in v q i up []) ≤ suc (suc l)
unfolding arrive_in
arrive_in_few v q zero l up h = omega (arith, h)
arrive_in_few v q (suc i) l up h = omega arith

arrive_few : (v n : ℕ) (ss : List ℕ) → length (arrive v n ss []) ≤ 2 * length ss + 1
unfolding arrive
arrive_few v n [] = omega arith
arrive_few v n (s ∷ ss) =
    let h = arrive_in_few v (n / 8) (n % 8) (2 * length ss + 1) (arrive (suc v) (n / 8) ss) (arrive_few (suc v) (n / 8) ss) in
    omega (arith, h)

pub few_arrive : (n : ℕ) (ss : List ℕ) → Gaps ss → length (arrive 0 n ss []) ≤ 31
few_arrive n ss g = omega (arith, arrive_few 0 n ss, g.count)

pub arrives_at : (T : Table) (t u : ℕ) (ss : List ℕ) → Gaps ss → u < most_time → u ≡ suc (t / 4096) * 4096 → Ready T t ss →
    Gaps (arrive_gaps (u / 4096) ss) × Runs 0 (arrive 0 (u / 4096) ss []) T u 0 (λ T' a' c'. (a' ≡ u) × (c' ≡ 0) × Ready T' u (arrive_gaps (u / 4096) ss))
unfolding ArrivesReady
arrives_at T t u ss g h e r =
    let n : suc (t / 4096) ≡ u / 4096 = omega (arith, e) in
    subst₂ (λ x y. Gaps (arrive_gaps x ss) × Runs 0 (arrive 0 x ss []) T y 0 (λ T' a' c'. (a' ≡ y) × (c' ≡ 0) × Ready T' y (arrive_gaps x ss))) n (sym e)
    (arrives_ready T t (t / 4096) 0 ss g (omega (arith, h, e)) refl r)

-- there is a first one
pub first_arrival : (n : ℕ) → arrival_slot n 0 ≡ Some (slot 0 (n / 8) (n % 8))
unfolding arrival_slot
first_arrival n = at_point 0 n 0 (omega arith) refl
