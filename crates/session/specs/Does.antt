-- What the methods of a session promise, by what they make of each target that the processor is like. Assumes nothing: these are definitions.
use Rattle.std.specs.Prelude.{◌≡◌, ℕ, ◌+◌, ◌-◌, ◌<◌, ◌≤◌, min, List, [], ◌++◌, length, take, drop, Ok, Err, Result}
use Rattle.command.specs.declared.code.Instr.{Instr as Code}
use Rattle.command.specs.Codes.{codes}
use Rattle.target.specs.Run.{Target, Came, fresh_target, with_state, words_of, going}
use Rattle.checkpoints.specs.Strides.{stride}
use Rattle.session.specs.declared.debugger.Refusal.{Refusal}
use Rattle.session.specs.declared.debugger.Refusal.TheVariants.{Full, Fault, NoMemory}

-- nothing changed
abbrev pub Stays : (before after : Target → Type 0) → Type 0
Stays before after = (t : Target) → before t → after t

-- how far a target goes with no break
abbrev pub gone : ℕ → Target → Came
gone n t = going n t.program t.fed [] t.state 0

-- it went on by so many steps at most, and that was so far
abbrev pub Went : ℕ → (before after : Target → Type 0) → ℕ → Type 0
Went n before after by = (t : Target) → before t → after (with_state t (gone n t).state) × ((gone n t).by ≡ by)

-- the time after so many steps, as long as the clock can show it
abbrev pub Later : (time by time₁ : ℕ) → Type 0
Later time by time₁ = time + by < 18446744073709551616 → time₁ ≡ time + by

-- one stride of what is left, as far as it goes
abbrev pub Strode : ℕ → (before after : Target → Type 0) → (time time₁ : ℕ) → Result ℕ Refusal → Type 0
Strode left before after time time₁ (Ok by) = (by ≤ left) × Later time by time₁ × Went (stride time left) before after by
Strode left before after time time₁ (Err e) = (time₁ ≡ time) × Stays before after

-- of at most n steps as far as it goes; a processor that fails has gone some of them
abbrev pub Forwards : ℕ → (before after : Target → Type 0) → (time time₁ : ℕ) → Result ℕ Refusal → Type 0
Forwards n before after time time₁ (Ok by) = (by ≤ n) × Later time by time₁ × Went n before after by
Forwards n before after time time₁ (Err e) = (m : ℕ) × (m ≤ n) × Later time m time₁ × Went m before after m

-- a program begins anew, or nothing changes
abbrev pub Loads : List Code → (before after : Target → Type 0) → (time time₁ fed fed₁ : ℕ) → {A : Type 0} → Result A Refusal → Type 0
Loads is before after time time₁ fed fed₁ (Ok x) = (length is ≤ 4096) × (time₁ ≡ 0) × (fed₁ ≡ 0) × after (fresh_target (codes is))
Loads is before after time time₁ fed fed₁ (Err e) = (4096 < length is) × (time₁ ≡ time) × (fed₁ ≡ fed) × Stays before after

abbrev pub fed_with : Target → List ℕ → Target
fed_with t vs = record { program = t.program; fed = t.fed ++ vs; state = t.state; slots = t.slots }

-- more than 65,536 in all are refused, and nothing changes; a processor that wants memory has more than the session counted
abbrev pub NotGiven : ℕ → (fed : ℕ) → (before : Target → Type 0) → Refusal → Type 0
NotGiven n fed before (Full k) = (k ≡ fed) × (65536 < fed + n)
NotGiven n fed before (Fault f) = (t : Target) → before t → 65536 < length t.fed + n
NotGiven n fed before NoMemory = ⊥

abbrev pub Gives : List ℕ → (before after : Target → Type 0) → (fed fed₁ : ℕ) → {A : Type 0} → Result A Refusal → Type 0
Gives vs before after fed fed₁ (Ok x) = (fed + length vs ≤ 65536) × (fed₁ ≡ fed + length vs) × ((t : Target) → before t → after (fed_with t vs))
Gives vs before after fed fed₁ (Err e) = (fed₁ ≡ fed) × Stays before after × NotGiven (length vs) fed before e

-- the words from an address on, as far as there are any
abbrev pub SeenWords : (from count : ℕ) → (Target → Type 0) → List ℕ → Type 0
SeenWords from count like vs = (t : Target) → like t → vs ≡ words_of t from (min count (65536 - from))

abbrev pub SeenOuts : (from count : ℕ) → (Target → Type 0) → List ℕ → Type 0
SeenOuts from count like vs = (t : Target) → like t → vs ≡ take count (drop from t.state.out)
