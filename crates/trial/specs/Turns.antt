-- What a command is to answer, by the plain debugger's definition. Assumes nothing: these are definitions.
use Rattle.std.specs.Prelude.{◌≡◌, ℕ, ◌<◌, ◌≤◌, List, [], ◌∷◌, length, Some, None, Ok, Err, vec_items, Option, Result, Vec}
use Rattle.std.specs.declared.alloc.Global.{Global}
use Rattle.command.specs.Machine.{eight, flat}
use Rattle.command.specs.Plain.{Plain, Command, load, turn, may_step}
use Rattle.command.specs.Codes.{codes}
use Rattle.command.specs.declared.code.Instr.{Instr as Code}
use Rattle.trial.specs.declared.debugger.Trial.{Trial}
use Rattle.trial.specs.declared.turns.Refusal.{Refusal}
use Rattle.trial.specs.declared.turns.Refusal.TheVariants.{NoCommand, NoSuch, Full}
use Rattle.trial.specs.declared.turns.Turn.{Turn}
use Rattle.trial.specs.Kept.{Kept}

-- the plain debugger's number of a refusal
abbrev pub refusal_number : Refusal → ℕ
refusal_number NoCommand = 1
refusal_number NoSuch = 3
refusal_number Full = 7

abbrev pub Answer : Type 0
Answer = Result (Option (Vec ℕ Global)) Refusal

-- 0 says that the command is done
abbrev pub reply_of : Answer → ℕ
reply_of (Ok shown) = 0
reply_of (Err refusal) = refusal_number refusal

-- a row of numbers is shown as their bytes
abbrev pub rows : {V : Type 0} → (V → List ℕ) → Option V → List (List ℕ)
rows f None = []
rows f (Some v) = flat eight (f v) ∷ []

abbrev pub rows_of : Answer → List (List ℕ)
rows_of (Ok shown) = rows vec_items shown
rows_of (Err refusal) = []

-- how it ends, what it shows, and what the debugger is then
pub record Answers (a : Answer) (e : Trial) (w : Plain) (c : Command) : Type 0 where
  pub reply : reply_of a ≡ (turn w c).reply
  pub shows : rows_of a ≡ (turn w c).shows
  pub kept : Kept e (turn w c).next

-- and how many steps it may take
pub record Turns (t : Turn) (e : Trial) (w : Plain) (c : Command) : Type 0 where
  pub answers : Answers t.answer e w c
  pub granted : t.granted ≡ may_step w c (turn w c)

-- no text spells a program of more than 4,096 instructions
pub record Loads (t : Turn) (e : Trial) (old : Plain) (is : List Code) : Type 0 where
  pub short : length is ≤ 4096 → Turns t e old (load (codes is))
  pub long : 4096 < length is → (t.answer ≡ Err NoCommand) × (t.granted ≡ 0) × Kept e old
