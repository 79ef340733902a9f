-- On the way: memory in the midst of a command that goes on, and what is done at a multiple of the spacing that it has reached. Assumes nothing.
use Rattle.std.proofs.Common.{◌≡◌, ℕ, zero, suc, ◌+◌, ◌*◌, ◌/◌, ◌%◌, ◌<◌, ◌≤◌, true, List, [], ◌∷◌, length, Some, None, Option, sym, refl, ap, ◌∙◌, subst, inl, inr, arith}
use Rattle.std.proofs.lemmas.Bool.{lt-ltb}
use Rattle.command.specs.Plain.{Plain, moved, on_till}
use Rattle.command.proofs.PastStays.{Runs_at}
use Rattle.target.specs.Run.{Event, next, keeps, Slot, Ran, world}
use Rattle.checkpoints.specs.Numbers.{most_time}
use Rattle.checkpoints.specs.Slots.{Table, put, Act, take, go, keep, Runs, act_at}
use Rattle.checkpoints.specs.Policy.{arrive, arrive_gaps}
use Rattle.checkpoints.specs.Ready.{Ready}
use Rattle.checkpoints.specs.Arrivals.{as_keep, arrival_slot}
use Rattle.checkpoints.specs.Statements.{Gaps, ArrivesSo}
use Rattle.checkpoints.proofs.Arriving.{arrives_so}
use Rattle.machine.specs.Engine.{Write, puts, written, planned, on_next, come_to, kept_or, set_off, cell, cells, limit, phase, time, fed, steps_left, cursor, keeping}
use Rattle.machine.specs.Plans.{Plans, Agrees}
use Rattle.machine.proofs.Memory.{cell_put, Alike, alike_same, alike_written, alike_fewer}
use Rattle.machine.proofs.Runs.{Ends, ends_within, acts}
use Rattle.machine.proofs.GapCells.{gaps_of}
use Rattle.machine.proofs.Kept.{target_of, Kept, States, slots_with, states_kept, empty_stays}
use Rattle.machine.proofs.KeepsAll.{uncounted, lasting_uncounted, no_slot, the_slot, no_take, no_go, keeps_all}
use Rattle.machine.proofs.Stands.{untimed, gap_untimed, gaps_alike, Lasts, lasts_alike, in_phase}
use Rattle.machine.proofs.Arrives.{arrival_writes, Arrived, arrived_so, few_arrive, arrives_at, first_arrival}

-- memory in the midst of a command: a phase, a time, and steps left
pub record At (w : Plain) (sl : List Slot) (p t n : ℕ) (m : List ℕ) : Type 0 where
  pub lasts : Lasts (moved w t) sl m
  pub phase_is : cell m phase ≡ p
  pub left_is : cell m steps_left ≡ n

-- some writes make it so, whatever the phase
abbrev pub Makes : Plain → List Slot → ℕ → ℕ → List Write → List ℕ → Type 0
Makes w sl t n ws m = (p : ℕ) → p % limit ≡ p → At w sl p t n (written (puts phase p ∷ ws) m)

-- it moved to a time for which the slots are ready
pub lasts_moved : (w : Plain) {sl : List Slot} {m m₁ : List ℕ} (t u : ℕ) → Lasts (moved w t) sl m → Alike untimed m m₁ → cell m₁ time ≡ u → Kept (moved w u) sl (gaps_of m) →
    Lasts (moved w u) sl m₁
lasts_moved w {sl} t u h a e k =
    let g = sym (gaps_alike gap_untimed a) in
    record {
      sized = a.size ∙ h.sized;
      time_is = e;
      fed_is = a.same fed refl ∙ h.fed_is;
      gaps = subst Gaps g h.gaps;
      kept = subst (λ (s : List ℕ). Kept (moved w u) sl s) g k;
    }

-- AT A MULTIPLE OF THE SPACING that it has reached, with r steps left: states are kept, and then it sets off, or is there
pub reached : (plans : Plans) (agrees : Agrees plans) (P : Ran → Type 0) (b : ℕ) (w : Plain) (sl : List Slot) (m : List ℕ) (ev : Event) (t u a r : ℕ) (ss : List (List ℕ)) (k : ℕ) →
    Lasts (moved w t) sl m → Runs_at w u → u < most_time → r < limit → on_till w [] t a ≡ u → t < u → u ≡ suc (t / 4096) * 4096 → plans m ev ≡ come_to true u r →
    ((sl₁ : List Slot) (m₂ : List ℕ) → length m₂ ≡ cells → Makes w sl₁ u r [] m₂ → plans m₂ next ≡ set_off [] u r → Ends plans b P (world (target_of (moved w u) sl₁) m₂) next ss k) →
    Ends plans (31 + b) P (world (target_of (moved w u) sl) m) ev ss k
unfolding come_to kept_or Runs act_at ArrivesSo planned on_next
reached plans agrees P b w sl m ev t u a r ss k l running u_low r_low came_there past e q go_on = by_kept l.kept
  where
    sz : length m ≡ cells
    sz = l.sized

    gs : List ℕ
    gs = gaps_of m

    m₁ : List ℕ
    m₁ = written (arrival_writes u r) m

    v : Arrived u r m m₁
    v = arrived_so u r m sz l.gaps (omega (arith, u_low)) r_low

    R : Table → Type 0
    R T = Ready T u (arrive_gaps (u / 4096) gs)

    Q : Table → ℕ → ℕ → Type 0
    Q T x c = (x ≡ u) × (c ≡ 0) × R T

    next_is : (m₂ : List ℕ) → Alike uncounted m₁ m₂ → plans m₂ next ≡ kept_or (arrival_slot (u / 4096) (cell m₂ cursor)) (puts cursor (suc (cell m₂ cursor)) ∷ []) (set_off [] u r)
    next_is m₂ x =
        let p : cell m₂ phase ≡ keeping = x.same phase refl ∙ v.phase_is in
        in_phase plans m₂ next keeping agrees refl refl p ∙ ap (λ (i : ℕ). on_next i m₂) p
        ∙ ap (λ (i : ℕ). kept_or (arrival_slot (i / 4096) (cell m₂ cursor)) (puts cursor (suc (cell m₂ cursor)) ∷ []) (set_off [] i (cell m₂ steps_left))) (x.same time refl ∙ v.time_is)
        ∙ ap (λ (i : ℕ). kept_or (arrival_slot (u / 4096) (cell m₂ cursor)) (puts cursor (suc (cell m₂ cursor)) ∷ []) (set_off [] u i)) (x.same steps_left refl ∙ v.left_is)

    all_kept : Gaps (arrive_gaps (u / 4096) gs) → (sl₁ : List Slot) (m₂ : List ℕ) (T : Table) → Alike uncounted m₁ m₂ → States w sl₁ T → R T →
        plans m₂ next ≡ set_off [] u r → Ends plans b P (world (target_of (moved w u) sl₁) m₂) next ss k
    all_kept g sl₁ m₂ T x s h p =
        let l₁ : Lasts (moved w u) sl₁ m₁ =
        record {
          sized = v.sized;
          time_is = v.time_is;
          fed_is = v.fed_is ∙ l.fed_is;
          gaps = subst Gaps (sym v.gaps_are) g;
          kept = inr (T, s, subst (Ready T u) (sym v.gaps_are) h);
        } in
        let l₂ : Lasts (moved w u) sl₁ m₂ = lasts_alike l₁ (alike_fewer lasting_uncounted x) in
        go_on sl₁ m₂ l₂.sized
        (λ i d. record {
          lasts = lasts_alike l₂ (alike_written (puts phase i ∷ []) m₂ refl);
          phase_is = cell_put (puts phase i ∷ []) m₂ phase l₂.sized refl ∙ d;
          left_is = cell_put (puts phase i ∷ []) m₂ steps_left l₂.sized refl ∙ x.same steps_left refl ∙ v.left_is;
        })
        p

    from_first : Gaps (arrive_gaps (u / 4096) gs) → (T : Table) → States w sl T → (todo : List Act) → Runs 0 todo T u 0 Q → ((j : ℕ) → act_at todo j ≡ as_keep (arrival_slot (u / 4096) j)) →
        length todo ≤ 31 → Ends plans (31 + b) P (world (target_of (moved w u) sl) m) ev ss k
    from_first g T s [] h so few =
        let z : Some _ ≡ None = sym (first_arrival (u / 4096)) ∙ no_slot (arrival_slot (u / 4096) 0) (so 0) in
        let bad : zero ≡ suc zero = cc in
        absurd (omega (arith, bad))
    from_first g T s (take j x ∷ todo) h so few = absurd (no_take (arrival_slot (u / 4096) 0) j x (so 0))
    from_first g T s (go n ∷ todo) h so few = absurd (no_go (arrival_slot (u / 4096) 0) n (so 0))
    from_first g T s (keep j ∷ todo) h so few =
        ends_within {b = suc (length todo + b)} (omega (arith, few))
        (acts {ws = arrival_writes u r} {a = keeps j} sz
        (q ∙ ap (λ (x : Option ℕ). kept_or x (arrival_writes u r) (set_off (puts time u ∷ puts steps_left r ∷ []) u r)) (the_slot (arrival_slot (u / 4096) 0) j (so 0))) (
          lt-ltb j 256 (omega (arith, h.0)),
          keeps_all plans b P w u running m₁ v.sized (arrival_slot (u / 4096)) (set_off [] u r) R ss k next_is (all_kept g)
              todo 1 (put T j u) (slots_with w u sl j) m₁ (omega (arith, few)) h.1
              (λ i. so (suc i) ∙ ap (λ (x : ℕ). as_keep (arrival_slot (u / 4096) x)) (one_more i)) alike_same v.cursor_is (states_kept w u sl T j running s),
        ))
      where
        one_more : (i : ℕ) → suc i ≡ 1 + i
        one_more i = omega arith

    by_kept : Kept (moved w t) sl gs → Ends plans (31 + b) P (world (target_of (moved w u) sl) m) ev ss k
    by_kept (inl h) = let z : u ≡ 0 = sym came_there ∙ empty_stays w t a h.0 h.1 in absurd (omega (arith, z, past))
    by_kept (inr (T, s, h)) =
        let x = arrives_at T t u gs l.gaps u_low e h in
        from_first x.0 T s (arrive 0 (u / 4096) gs []) x.1 (λ j. arrives_so (u / 4096) j gs l.gaps (omega (arith, u_low))) (few_arrive (u / 4096) gs l.gaps)
