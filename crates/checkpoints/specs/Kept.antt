-- What one level says of a kept state at or before a time. Assumes nothing: these are definitions.
use Rattle.std.specs.Prelude.{◌≡◌, ℕ, suc, ◌*◌, ◌/◌, List, ◌∷◌, Some, None, Option}
use Rattle.checkpoints.specs.Numbers.{fan}
use Rattle.checkpoints.specs.Policy.{kept, last_from}
use Rattle.checkpoints.specs.declared.kept.Checkpoint.{Checkpoint}

-- the time is t: it has one at or before y, or those above say
abbrev pub Says : (v g t y gap : ℕ) → Option Checkpoint → Type 0
Says v g t y gap (Some c) = (ss : List ℕ) → last_from v g (gap ∷ ss) (t / g) (y / g) ≡ kept c.slot c.time
Says v g t y gap None = (ss : List ℕ) → last_from v g (gap ∷ ss) (t / g) (y / g) ≡ last_from (suc v) (fan * g) ss (t / g / fan) (y / g / fan)
