-- The commands that begin anew and give: load and give. Assumes nothing.
use Rattle.std.proofs.Common.{◌≡◌, ℕ, suc, ◌+◌, ◌<◌, Bool, true, false, ltb, List, [], ◌∷◌, ◌++◌, length, sym, refl, ap, ◌∙◌, subst, inr, mod-eq_of_lt, zero-add, arith, lit≤, length-append, None}
use Rattle.std.proofs.lemmas.Bool.{and_parts, ltb-false}
use Rattle.command.specs.Machine.{pick, Instr, State, state_at}
use Rattle.command.specs.Plain.{load, give, fits, Plain, Turn, turn, no, yes_with, at_time, may_step}
use Rattle.command.proofs.PastStays.{given, state_stays, runs_still}
use Rattle.command.proofs.Running.{runs_first}
use Rattle.target.specs.Run.{said, next, starts, feeds, done, refused, Slot, world}
use Rattle.checkpoints.specs.Slots.{Table}
use Rattle.checkpoints.specs.Policy.{start}
use Rattle.checkpoints.specs.Ready.{Ready}
use Rattle.checkpoints.specs.Arrivals.{as_keep, beginning_slot}
use Rattle.checkpoints.specs.Statements.{Gaps, Starts, BeginsSo}
use Rattle.checkpoints.proofs.Stand as stand
use Rattle.checkpoints.proofs.Arriving.{begins_so}
use Rattle.machine.specs.Engine.{Write, puts, written, Plan, plan, planned, begin, on_next, kept_or, cell, cells, limit, phase, time, fed, cursor, idle, ending, beginning}
use Rattle.machine.specs.Plans.{Plans, Agrees}
use Rattle.machine.proofs.Memory.{length_written, cell_put, Alike, alike_same, alike_then, alike_written, alike_fewer}
use Rattle.machine.proofs.Runs.{Ends, ends_within, acts}
use Rattle.machine.proofs.GapCells.{gaps_of}
use Rattle.machine.proofs.Kept.{target_of, Kept, States, states_none, kept_given}
use Rattle.machine.proofs.KeepsAll.{uncounted, lasting_uncounted, keeps_all}
use Rattle.machine.proofs.Stands.{a_gap, gaps_alike, Lasts, Stands, Comes, Obeys, Obeyed, lasts_alike, fair_less, stands_less, in_phase, ended}

start_count : (v : ℕ) (ss : List ℕ) → length (start v ss []) ≡ suc (length ss)
unfolding start
start_count v [] = refl
start_count v (s ∷ ss) = ap suc (start_count (suc v) ss)

gap_fresh : (j : ℕ) → a_gap j ≡ true → a_gap j ≡ true
gap_fresh j h = h

pub load_obeyed : (is : List Instr) → Obeyed (load is)
unfolding begin turn may_step fits state_at Starts BeginsSo planned on_next
load_obeyed is plans g left w sl m text h f q =
    ends_within {b = suc (length (start 0 ss []) + 1)} (omega (arith, start_count 0 ss, gaps₁.count))
    (acts {ws = ws} {a = starts is} h.lasts.sized q (
      (and_parts _ _ f).0,
      keeps_all plans 1 (Obeys left w (load is)) w₁ 0 (runs_first is []) m₁ s₁ beginning_slot (plan (puts phase idle ∷ []) done)
          (λ T. Ready T 0 ss) [] 0 next_is all_kept
          (start 0 ss []) 0 (λ _. None) [] m₁ (omega (arith, start_count 0 ss, gaps₁.count)) (stand.starts ss (λ _. None) gaps₁)
          (λ j. begins_so ss j gaps₁ ∙ ap (λ (x : ℕ). as_keep (beginning_slot x)) (sym (zero-add j))) alike_same
          (cell_put ws m cursor h.lasts.sized refl) (states_none w₁ []),
    ))
  where
    ws : List Write
    ws = puts phase beginning ∷ puts cursor 0 ∷ puts time 0 ∷ puts fed 0 ∷ []

    m₁ : List ℕ
    m₁ = written ws m

    w₁ : Plain
    w₁ = record { program = is; ins = []; now = 0; breaks = []; next = 1 }

    s₁ : length m₁ ≡ cells
    s₁ = length_written ws m ∙ h.lasts.sized

    ss : List ℕ
    ss = gaps_of m₁

    gaps₁ : Gaps ss
    gaps₁ = subst Gaps (sym (gaps_alike {these = a_gap} gap_fresh (alike_written ws m refl))) h.lasts.gaps

    next_is : (m₂ : List ℕ) → Alike uncounted m₁ m₂ → plans m₂ next ≡ kept_or (beginning_slot (cell m₂ cursor)) (puts cursor (suc (cell m₂ cursor)) ∷ []) (plan (puts phase idle ∷ []) done)
    next_is m₂ a =
        let p : cell m₂ phase ≡ beginning = a.same phase refl ∙ cell_put ws m phase h.lasts.sized refl in
        in_phase plans m₂ next beginning g refl refl p ∙ ap (λ (x : ℕ). on_next x m₂) p

    all_kept : (sl₁ : List Slot) (m₂ : List ℕ) (T : Table) → Alike uncounted m₁ m₂ → States w₁ sl₁ T → Ready T 0 ss →
        plans m₂ next ≡ plan (puts phase idle ∷ []) done → Ends plans 1 (Obeys left w (load is)) (world (target_of w₁ sl₁) m₂) next [] 0
    all_kept sl₁ m₂ T a s r p =
        let l₁ : Lasts w₁ sl₁ m₁ =
        record {
          sized = s₁;
          time_is = cell_put ws m time h.lasts.sized refl;
          fed_is = cell_put ws m fed h.lasts.sized refl;
          gaps = gaps₁;
          kept = inr (T, s, r);
        } in
        let m₃ : List ℕ = written (puts phase idle ∷ []) m₂ in
        acts {b = 0} {ws = puts phase idle ∷ []} {a = done} (a.size ∙ s₁) p
        (record {
          ends = refl;
          showed = refl;
          within = lit≤ tt;
          slots = sl₁;
          memory = m₃;
          here = refl;
          stands = record {
            fair = record { running = runs_first is []; soon = omega (arith, h.fair.soon); no_breaks = refl; no_ids = refl };
            lasts = lasts_alike l₁ (alike_then (alike_fewer lasting_uncounted a) (alike_written (puts phase idle ∷ []) m₂ refl));
          };
        })

abbrev give_turn : Plain → List ℕ → Bool → Turn
give_turn w vs b = pick b (no 7 w) (yes_with [] (given w vs))

abbrev give_plan : List ℕ → List ℕ → Bool → Plan
give_plan m vs b = pick b (plan [] (refused 7)) (plan (puts phase ending ∷ puts fed (cell m fed + length vs) ∷ []) (feeds vs))

give_by : (vs : List ℕ) (plans : Plans) → Agrees plans → (left : ℕ) (w : Plain) (sl : List Slot) (m : List ℕ) (text : List ℕ) → Stands (suc left) w sl m →
    (b : Bool) → ltb 65536 (length w.ins + length vs) ≡ b → plans m (said text) ≡ give_plan m vs b →
    Ends plans 2 (Comes left 0 (give_turn w vs b)) (world (target_of w sl) m) (said text) [] 0
unfolding written
give_by vs plans g left w sl m text h true e q =
    acts {ws = []} {a = refused 7} h.lasts.sized q
    (record { ends = refl; showed = refl; within = lit≤ tt; slots = sl; memory = m; here = refl; stands = stands_less h })
give_by vs plans g left w sl m text h false e q =
    let ws : List Write = puts phase ending ∷ puts fed (cell m fed + length vs) ∷ [] in
    let m₁ : List ℕ = written ws m in
    let s₁ : length m₁ ≡ cells = length_written ws m ∙ h.lasts.sized in
    let few : cell m fed + length vs < limit = omega (arith, h.lasts.fed_is, ltb-false 65536 (length w.ins + length vs) e) in
    let same : at_time (given w vs) w.now ≡ at_time w w.now = state_stays w vs w.now h.fair.running in
    let gs = sym (gaps_alike {these = a_gap} gap_fresh (alike_written ws m refl)) in
    let l₁ : Lasts (given w vs) sl m₁ =
    record {
      sized = s₁;
      time_is = cell_put ws m time h.lasts.sized refl ∙ h.lasts.time_is;
      fed_is = cell_put ws m fed h.lasts.sized refl ∙ mod-eq_of_lt few ∙ ap (λ (x : ℕ). x + length vs) h.lasts.fed_is ∙ sym (length-append w.ins vs);
      gaps = subst Gaps gs h.lasts.gaps;
      kept = subst (λ (s : List ℕ). Kept (given w vs) sl s) gs (kept_given w vs sl (gaps_of m) h.lasts.kept);
    } in
    let m₂ : List ℕ = written (puts phase idle ∷ []) m₁ in
    acts {ws = ws} {a = feeds vs} h.lasts.sized q
    (ended g s₁ (cell_put ws m phase h.lasts.sized refl)
    (record {
      ends = refl;
      showed = refl;
      within = lit≤ tt;
      slots = sl;
      memory = m₂;
      here = ap (λ (s : State). world (record { program = w.program; fed = w.ins ++ vs; state = s; slots = sl }) m₂) (sym same);
      stands = record {
        fair = record { running = runs_still w vs w.now h.fair.running; soon = (fair_less h.fair).soon; no_breaks = h.fair.no_breaks; no_ids = h.fair.no_ids };
        lasts = lasts_alike l₁ (alike_written (puts phase idle ∷ []) m₁ refl);
      };
    }))

pub give_obeyed : (vs : List ℕ) → Obeyed (give vs)
unfolding begin turn may_step
give_obeyed vs plans g left w sl m text h f q =
    ends_within {b = 2} (lit≤ tt)
    (give_by vs plans g left w sl m text h (ltb 65536 (length w.ins + length vs)) refl
    (q ∙ ap (λ (x : ℕ). give_plan m vs (ltb 65536 (x + length vs))) h.lasts.fed_is))
