-- When the processor holds a state of its definition, and what a step may make of it. Assumes nothing: these are definitions.
use Rattle.std.specs.Prelude.{◌≡◌, ℕ, ◌+◌, ◌≤◌, List, ◌++◌, length, drop, Some, None, Option, Ok, Err, Result, vec_items, vec_capacity, ◌==◌, slice_index}
use Rattle.command.specs.Machine.{pick, word_at, Status, running, State as Model}
use Rattle.target.specs.declared.answers.Came.{Came}
use Rattle.target.specs.declared.answers.Why.{Why}
use Rattle.target.specs.Run.{Came as Far}
use Rattle.target.specs.Whys.{status_of, why_number}
use Rattle.processor.specs.declared.pages.Pages.{Pages}
use Rattle.processor.specs.declared.state.State.{State}
use Rattle.processor.specs.declared.writing.Overwritten.{Overwritten}

abbrev pub held : State → List ℕ
held m = vec_items m.words.items

-- a list laid over another, of which what is further on shows
abbrev pub laid : List ℕ → List ℕ → List ℕ
laid xs ys = xs ++ drop (length xs) ys

-- what no step alters: the log that what goes out is laid over, and the pages
pub record Base : Type 0 where
  pub log : List ℕ
  pub pages : Pages

-- the words are those that were written, or 0; a state that is held is one that runs
pub record Like (b : Base) (m : State) (s : Model) : Type 0 where
  pub place : s.at ≡ m.at
  pub registers : s.regs ≡ m.regs
  pub words : (a : ℕ) → word_at s.words a ≡ slice_index (held m) a
  pub took : s.taken ≡ m.taken
  pub put : length s.out ≡ m.put
  pub log : vec_items m.log ≡ laid s.out b.log
  pub pages : m.words.pages ≡ b.pages
  pub runs : s.status ≡ running

-- a state that may go on to the next place
pub record Ready (b : Base) (m : State) (next : ℕ) (s : Model) : Type 0 where
  pub like : Like b m s
  pub follows : next ≡ m.at + 1

-- what the words were before, if it went on
abbrev pub before : Option Overwritten → (ℕ → ℕ) → ℕ → ℕ
before None f a = f a
before (Some w) f a = pick (w.place == a) w.before (f a)

pub record OnTo (b : Base) (m : State) (w : Option Overwritten) (s t : Model) : Type 0 where
  pub like : Like b m t
  pub was : (a : ℕ) → word_at s.words a ≡ before w (word_at t.words) a

pub record Stays (b : Base) (m : State) (y : Status) (s t : Model) : Type 0 where
  pub like : Like b m s
  pub why : t.status ≡ y

-- from a state to what its definition makes of it in a step
abbrev pub After : Base → State → Result (Option Overwritten) Why → Model → Model → Type 0
After b m (Ok w) s t = OnTo b m w s t
After b m (Err y) s t = Stays b m (status_of y) s t

-- the room for what goes out doesn't shrink, and a step takes up at most one place of it
pub record Room (m m₁ : State) : Type 0 where
  pub cap : vec_capacity m.log ≤ vec_capacity m₁.log
  pub put : m₁.put ≤ m.put + 1

-- how far it came, by its definition
pub record CameTo (b : Base) (m : State) (c : Came) (k : Far) : Type 0 where
  pub like : Like b m k.state
  pub by : k.by ≡ c.by
  pub hit : k.hit ≡ c.hit
  pub why : k.why ≡ why_number c.why
