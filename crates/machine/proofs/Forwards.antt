-- Forward: a ride from now on, and the time shown. Assumes nothing.
use Rattle.std.proofs.Common.{◌≡◌, ℕ, ◌+◌, ◌*◌, ◌<◌, ◌≤◌, List, [], ◌∷◌, refl, ap, ◌∙◌, mod-eq_of_lt, arith}
use Rattle.std.proofs.lemmas.Bool.{leb-true}
use Rattle.command.specs.Machine.{eight}
use Rattle.command.specs.Plain.{forward, fits, Plain, turn, moved_turn, on_till, may_step, apart, billion}
use Rattle.command.proofs.Stops.{on_stop}
use Rattle.command.proofs.Times.{apart_on}
use Rattle.target.specs.Run.{said, shows}
use Rattle.checkpoints.specs.Numbers.{most_time}
use Rattle.machine.specs.Engine.{Write, puts, written, begin, arrived, set_off, phase, steps_left, idle, ending}
use Rattle.machine.specs.Plans.{Plans, Agrees}
use Rattle.machine.proofs.Memory.{cell_put, alike_written}
use Rattle.machine.proofs.Runs.{ends_within, acts}
use Rattle.machine.proofs.Reaches.{At, Makes}
use Rattle.machine.proofs.Rides.{Arrival, onward}
use Rattle.machine.proofs.Stands.{Comes, Obeyed, lasts_alike, ended}

-- a command that comes to a time, shows it and is done; it came from some time with some steps
pub time_shown : (plans : Plans) (agrees : Agrees plans) (left grant : ℕ) (w : Plain) (o from-time from-steps top : ℕ) (low : top < most_time) → top + left * billion ≤ 4294967296 * billion →
    w.breaks ≡ [] → w.next ≡ 1 → ((k : ℕ) → k + from-time ≡ o + from-steps → k ≤ grant) →
    Arrival plans agrees (Comes left grant (moved_turn w o)) 2 w o from-time from-steps top low
unfolding arrived
time_shown plans agrees left grant w o from-time from-steps top low soon bs ids within sl m ev ws n k y s r q =
    let m₁ : List ℕ = written (puts phase ending ∷ ws) m in
    let a : At w sl ending o n m₁ = r ending refl in
    let m₂ : List ℕ = written (puts phase idle ∷ []) m₁ in
    acts {ws = puts phase ending ∷ ws} {a = shows (eight o)} s q
    (ended agrees a.lasts.sized a.phase_is
    (record {
      ends = refl;
      showed = refl;
      within = within k y.steps;
      slots = sl;
      memory = m₂;
      here = refl;
      stands = record {
        fair = record { running = y.running; soon = omega (arith, y.near, soon); no_breaks = bs; no_ids = ids };
        lasts = lasts_alike a.lasts (alike_written (puts phase idle ∷ []) m₁ refl);
      };
    }))

pub forward_obeyed : (n : ℕ) → Obeyed (forward n)
unfolding begin turn may_step fits
forward_obeyed n plans g left w sl m text h f q =
    ends_within {b = 2 + 32 * n} (omega (arith, n_low))
    (onward plans g (Comes left (apart w.now o) (moved_turn w o)) 2 w o w.now 0 top low n
    (time_shown plans g left (apart w.now o) w o w.now 0 top low (omega (arith, h.fair.soon)) h.fair.no_breaks h.fair.no_ids
    (λ k e. omega (arith, e, apart_on w.now o (on_stop w [] w.now n).0)))
    sl m (said text) ws w.now n 0 (omega arith)
    (record { steps = omega arith; near = omega (arith, n_low); running = h.fair.running })
    h.lasts.sized makes refl (q ∙ ap (λ (i : ℕ). set_off ws i n) h.lasts.time_is))
  where
    o : ℕ
    o = on_till w [] w.now n

    n_low : n ≤ 1000000000
    n_low = leb-true n billion f

    top : ℕ
    top = w.now + billion

    low : top < most_time
    low = omega (arith, h.fair.soon)

    ws : List Write
    ws = puts steps_left n ∷ []

    makes : Makes w sl w.now n ws m
    makes p e =
        record {
          lasts = lasts_alike h.lasts (alike_written (puts phase p ∷ ws) m refl);
          phase_is = cell_put (puts phase p ∷ ws) m phase h.lasts.sized refl ∙ e;
          left_is = cell_put (puts phase p ∷ ws) m steps_left h.lasts.sized refl ∙ mod-eq_of_lt (omega (arith, n_low));
        }
