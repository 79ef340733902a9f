-- What is promised of the processor and of the plain debugger. Each is a statement; a function of src/statements.rt has it as its contract.
-- Assumes nothing.
use Rattle.std.specs.Prelude.{◌≡◌, ℕ, ◌+◌, ◌<◌, ◌≤◌, true, false, ◌⊎◌, ◌↔◌, List, [], ◌∷◌, ◌++◌, length, ◌==◌, nat_lt}
use Rattle.command.specs.Machine.{every, Instr, Word, State, state_at, word_at, put_word, is_running, reckoned, whole, goes_on}
use Rattle.command.specs.Plain.{a_word, an_instr, Command, spelled, fits, Plain, Break, holds_at, on_till, back_till, changes_at, last_change}
use Rattle.command.specs.Reader.{some, read_command, Says}

-- No two commands are spelled alike.
unfoldable pub SpelledOnce : Type 0
SpelledOnce = (a c : Command) → fits a ≡ true → fits c ≡ true → spelled a ≡ spelled c → a ≡ c

-- A text is read as a command if and only if it spells that command, and the command fits. So every other text is read as none.
unfoldable pub ReadExactly : Type 0
ReadExactly = (text : List ℕ) (c : Command) → (read_command text ≡ some c) ↔ Says text c

-- More to come in changes nothing of what was.
unfoldable pub PastSame : Type 0
PastSame =
    (is : List Instr) (ins more : List ℕ) (n : ℕ) → is_running (state_at is ins n).status ≡ true → state_at is (ins ++ more) n ≡ state_at is ins n

-- Words hold what was written last.
unfoldable pub WordsRight : Type 0
WordsRight =
    (ws : List Word) (a b v : ℕ) → (word_at (put_word ws a v) a ≡ v) × ((a == b) ≡ false → word_at (put_word ws a v) b ≡ word_at ws b)

-- Numbers stay below 2^32.
unfoldable pub SmallNumbers : Type 0
SmallNumbers = (k a b : ℕ) → a < whole → b < whole → every (λ v. nat_lt v 4294967296) (reckoned k a b) ≡ true

-- a state as 32-bit registers and words can hold it: sixteen registers, all that is held or went out below 2^32, the place too, and no more taken
-- than has come in
pub record SmallState (ins : List ℕ) (s : State) : Type 0 where
  pub sixteen : length s.regs ≡ 16
  pub regs : every (λ v. nat_lt v 4294967296) s.regs ≡ true
  pub words : (a : ℕ) → word_at s.words a < 4294967296
  pub out : every (λ v. nat_lt v 4294967296) s.out ≡ true
  pub place : s.at < 4294967296
  pub taken : s.taken ≤ length ins

-- So do those of each state, at all times, for a program and an input that fit.
unfoldable pub SmallStates : Type 0
SmallStates =
    (is : List Instr) (ins : List ℕ) (t : ℕ) → length is ≤ 4096 → every an_instr is ≡ true → every a_word ins ≡ true → SmallState ins (state_at is ins t)

-- What went out stays out: later there is only more of it.
unfoldable pub OutsGrow : Type 0
OutsGrow =
    (is : List Instr) (ins : List ℕ) (u t : ℕ) → u ≤ t → (more : List ℕ) × ((state_at is ins t).out ≡ (state_at is ins u).out ++ more)

-- Where one stops, going on, is the first; and going back, the last.
unfoldable pub FirstStop : Type 0
FirstStop =
    (w : Plain) (bs : List Break) (t n u : ℕ) → on_till w bs t n ≡ u →
    (t ≤ u) × (u ≤ t + n) × ((v : ℕ) → t < v → v < u → holds_at w bs v ≡ false)
    × ((holds_at w bs u ≡ true) ⊎ ((u ≡ t + n) ⊎ (goes_on w.program w.ins u ≡ false)))

unfoldable pub LastStop : Type 0
LastStop =
    (w : Plain) (bs : List Break) (t n u : ℕ) → back_till w bs t n ≡ u →
    (u ≤ t) × (t ≤ u + n) × ((v : ℕ) → u < v → v < t → 1 ≤ v → holds_at w bs v ≡ false)
    × ((holds_at w bs u ≡ true) ⊎ ((u ≡ 0) ⊎ (t ≡ u + n)))

-- The last step that changed a word is one, and none after it is.
unfoldable pub ChangerLast : Type 0
ChangerLast =
    (w : Plain) (a t u : ℕ) → last_change w a t ≡ u ∷ [] →
    (changes_at w a u ≡ true) × (u ≤ t) × ((v : ℕ) → u < v → v ≤ t → changes_at w a v ≡ false)
