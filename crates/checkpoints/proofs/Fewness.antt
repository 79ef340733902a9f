-- No plan speaks of a slot past the last: what can be carried out where only the slots hold anything takes up no other. Assumes nothing.
use Rattle.std.proofs.Common.{◌≡◌, ℕ, ◌+◌, ◌/◌, ◌<◌, ◌≤◌, cond, ltb, List, [], ◌∷◌, refl, ◌∙◌, ⊎_elim, arith, None}
use Rattle.std.proofs.lemmas.Bool.{cases_lt, lt-ltb, le-ltb}
use Rattle.checkpoints.specs.Numbers.{slots, here}
use Rattle.checkpoints.specs.Slots.{Table, put, Act, take, go, keep, Runs, Few}
use Rattle.checkpoints.specs.Ready.{Ready}
use Rattle.checkpoints.specs.Statements.{SlotsFew, Starts, Restarts, ArrivesReady, GoesForward, MovesLevels, Settles, GoesBack, FindsBack, FindsNone}
use Rattle.checkpoints.proofs.Tables.{put_else}
use Rattle.checkpoints.proofs.Carried.{Goal}
use Rattle.checkpoints.proofs.Search.{ready_low}
use Rattle.checkpoints.proofs.Stand.{room, starts, restarts, arrives_ready, goes_forward, moves_levels, settles, goes_back, finds_back, finds_none}
use Rattle.checkpoints.proofs.Arriving.{arrival_few, beginning_few}
use Rattle.checkpoints.proofs.LevelUp.{last_few}

-- nothing past the last slot
abbrev Bare : Table → Type 0
Bare T = (k : ℕ) → slots ≤ k → T k ≡ None

runs_few : (far : ℕ) (acts : List Act) (T : Table) (a c : ℕ) (Q : Goal) → Bare T → Runs far acts T a c Q → Few acts
unfolding Runs Few
runs_few far [] T a c Q b h = tt
runs_few far (take k x ∷ rest) T a c Q b h =
    (⊎_elim (λ (l : k < slots). l) (λ (l : slots ≤ k). let e = b k l in let e' = h.0 in let z : ◌≡◌ {A = ℕ} 0 1 = cc in absurd (omega arith)) (cases_lt k slots), runs_few far rest T x c Q b h.1)
runs_few far (go n ∷ rest) T a c Q b h = runs_few far rest T (a + n) (c + n) Q b h.1
runs_few far (keep k ∷ rest) T a c Q b h = (h.0, runs_few far rest (put T k a) a c Q (λ j hj. put_else T k a j (omega arith) ∙ b j hj) h.1)

-- a table without what is past the last slot
bare : Table → Table
bare T k = cond (ltb k slots) (T k) None

bare_low : (T : Table) (k : ℕ) → k < here → bare T k ≡ T k
unfolding bare
bare_low T k h = let l : k < slots = omega arith in rw (lt-ltb k slots l)

bare_bare : (T : Table) → Bare (bare T)
unfolding bare
bare_bare T k h = rw (le-ltb k slots h)

pub slots_few : SlotsFew
unfolding SlotsFew Starts Restarts ArrivesReady GoesForward MovesLevels Settles GoesBack FindsBack FindsNone
slots_few = (
  λ T t ss g h r.
      let T' = bare T in
      let b = bare_bare T in
      let r' : Ready T' t ss = ready_low T T' t ss (omega (arith, g.count)) (room (t / 4096) ss g (omega arith)) (bare_low T) r in (
        runs_few 0 _ T' 0 0 _ b (starts ss T' g),
        runs_few 0 _ T' 0 0 _ b (restarts T' t 0 ss g r'),
        runs_few t _ T' t 0 _ b (finds_none T' t ss g h r'),
        runs_few t _ T' 0 0 _ b (settles T' t 0 0 ss r'),
        λ hn. runs_few 0 _ T' _ 0 _ b (arrives_ready T' t (t / 4096) 0 ss g hn refl r').1,
        λ u le hu. runs_few u _ T' t 0 _ b (goes_forward T' t u ss g le hu r').1,
        λ u le. runs_few t _ T' 0 0 _ b (moves_levels T' t u 0 0 ss g le r').1,
        λ u le. runs_few t _ T' 0 0 _ b (goes_back T' t u 0 ss g le r').1,
        λ u pos le. runs_few t _ T' 0 0 _ b (finds_back T' t u 0 ss g h pos le r'),
      ),
  arrival_few,
  beginning_few,
  last_few,
)
