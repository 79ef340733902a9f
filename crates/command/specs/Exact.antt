-- Where going on, going back and looking for a change stop, said so that it can be nowhere else. Each is a statement; a function of
-- src/statements.rt has it as its contract. Assumes nothing.
use Rattle.std.specs.Prelude.{◌≡◌, ℕ, ◌+◌, ◌<◌, ◌≤◌, true, false, ◌⊎◌, ◌↔◌, List, [], ◌∷◌}
use Rattle.command.specs.Machine.{goes_on}
use Rattle.command.specs.Plain.{Plain, Break, holds_at, on_till, back_till, changes_at, last_change}

-- why going on from t by at most n may stop at u: a break holds, but not one that held at t already; it's that far; it doesn't go on
abbrev pub OnEnd : Plain → List Break → ℕ → ℕ → ℕ → Type 0
OnEnd w bs t n u = ((t < u) × (holds_at w bs u ≡ true)) ⊎ ((u ≡ t + n) ⊎ (goes_on w.program w.ins u ≡ false))

abbrev pub OnExact : Plain → List Break → ℕ → ℕ → ℕ → Type 0
OnExact w bs t n u =
    (t ≤ u) × (u ≤ t + n) × ((v : ℕ) → t ≤ v → v < u → goes_on w.program w.ins v ≡ true)
    × ((v : ℕ) → t < v → v < u → holds_at w bs v ≡ false) × OnEnd w bs t n u

-- Going on stops there, and nowhere else: it ran till there, and at none of the times passed did a break hold.
unfoldable pub FirstStopExact : Type 0
FirstStopExact = (w : Plain) (bs : List Break) (t n u : ℕ) → (on_till w bs t n ≡ u) ↔ OnExact w bs t n u

-- why going back from t by at most n may stop at u; a break that holds at t itself is no reason
abbrev pub BackEnd : Plain → List Break → ℕ → ℕ → ℕ → Type 0
BackEnd w bs t n u = (u ≡ 0) ⊎ (((u < t) × (holds_at w bs u ≡ true)) ⊎ (t ≡ u + n))

abbrev pub BackExact : Plain → List Break → ℕ → ℕ → ℕ → Type 0
BackExact w bs t n u = (u ≤ t) × (t ≤ u + n) × ((v : ℕ) → u < v → v < t → holds_at w bs v ≡ false) × BackEnd w bs t n u

-- Going back likewise.
unfoldable pub LastStopExact : Type 0
LastStopExact = (w : Plain) (bs : List Break) (t n u : ℕ) → (back_till w bs t n ≡ u) ↔ BackExact w bs t n u

-- the step to u changed the word, and none after it up to t did
abbrev pub ChangedLast : Plain → ℕ → ℕ → ℕ → Type 0
ChangedLast w a t u = (changes_at w a u ≡ true) × (1 ≤ u) × (u ≤ t) × ((v : ℕ) → u < v → v ≤ t → changes_at w a v ≡ false)

-- The last change is found where there is one, and only there.
unfoldable pub ChangerExact : Type 0
ChangerExact =
    ((w : Plain) (a t u : ℕ) → (last_change w a t ≡ u ∷ []) ↔ ChangedLast w a t u)
    × ((w : Plain) (a t : ℕ) → (last_change w a t ≡ []) ↔ ((v : ℕ) → 1 ≤ v → v ≤ t → changes_at w a v ≡ false))
