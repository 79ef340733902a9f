-- Plans that can be carried out: what holds of any of them. Assumes nothing.
use Rattle.std.proofs.Common.{ℕ, ◌+◌, ◌≤◌, List, [], ◌∷◌, ◌++◌, arith}
use Rattle.checkpoints.specs.Slots.{Table, put, Act, take, go, keep, Runs}

-- what comes to hold of table, time and steps
abbrev pub Goal : Type 1
Goal = Table → ℕ → ℕ → Type 0

-- what holds at the end may say less
pub runs_less : (far : ℕ) (acts : List Act) (T : Table) (a c : ℕ) (P Q : Goal) → ((T' : Table) (a' c' : ℕ) → P T' a' c' → Q T' a' c') → Runs far acts T a c P → Runs far acts T a c Q
unfolding Runs
runs_less far [] T a c P Q f h = f T a c h
runs_less far (take k x ∷ rest) T a c P Q f h = (h.0, runs_less far rest T x c P Q f h.1)
runs_less far (go n ∷ rest) T a c P Q f h = (h.0, runs_less far rest T (a + n) (c + n) P Q f h.1)
runs_less far (keep k ∷ rest) T a c P Q f h = (h.0, runs_less far rest (put T k a) a c P Q f h.1)

-- it may go further
pub runs_further : (far far' : ℕ) (acts : List Act) (T : Table) (a c : ℕ) (Q : Goal) → far ≤ far' → Runs far acts T a c Q → Runs far' acts T a c Q
unfolding Runs
runs_further far far' [] T a c Q le h = h
runs_further far far' (take k x ∷ rest) T a c Q le h = (h.0, runs_further far far' rest T x c Q le h.1)
runs_further far far' (go n ∷ rest) T a c Q le h = (omega (arith, h.0), runs_further far far' rest T (a + n) (c + n) Q le h.1)
runs_further far far' (keep k ∷ rest) T a c Q le h = (h.0, runs_further far far' rest (put T k a) a c Q le h.1)

-- one plan after another
pub runs_then : (far : ℕ) (acts more : List Act) (T : Table) (a c : ℕ) (Q : Goal) → Runs far acts T a c (λ T' a' c'. Runs far more T' a' c' Q) → Runs far (acts ++ more) T a c Q
unfolding Runs
runs_then far [] more T a c Q h = h
runs_then far (take k x ∷ rest) more T a c Q h = (h.0, runs_then far rest more T x c Q h.1)
runs_then far (go n ∷ rest) more T a c Q h = (h.0, runs_then far rest more T (a + n) (c + n) Q h.1)
runs_then far (keep k ∷ rest) more T a c Q h = (h.0, runs_then far rest more (put T k a) a c Q h.1)

-- what can be carried out has an end
pub runs_end : (far : ℕ) (acts : List Act) (T : Table) (a c : ℕ) (Q : Goal) → Runs far acts T a c Q → (T' : Table) × (a' : ℕ) × (c' : ℕ) × Q T' a' c'
unfolding Runs
runs_end far [] T a c Q h = (T, a, c, h)
runs_end far (take k x ∷ rest) T a c Q h = runs_end far rest T x c Q h.1
runs_end far (go n ∷ rest) T a c Q h = runs_end far rest T (a + n) (c + n) Q h.1
runs_end far (keep k ∷ rest) T a c Q h = runs_end far rest (put T k a) a c Q h.1
