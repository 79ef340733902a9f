-- When a moment is a state's, and what a step is to come to. Assumes nothing: these are definitions.
use Rattle.std.specs.Prelude.{◌≡◌, ℕ, ◌+◌, List, ◌++◌, replicate, Some, None, Ok, Err, Option, Result, ◌==◌, slice_index, slice_set}
use Rattle.std.specs.Option.{option_to_list}
use Rattle.command.specs.Machine.{pick, word_at, Status, running, halted, wrong, waiting, State as Model}
use Rattle.trial.specs.declared.moments.Written.{Written}
use Rattle.trial.specs.declared.moments.Moment.{Moment}
use Rattle.trial.specs.declared.moments.Why.{Why}
use Rattle.trial.specs.declared.moments.Why.TheVariants.{Halted, Waits, NoInstr, NoWord, ByZero}

-- the words after a step, by those before it
abbrev pub wrote : Option Written → (ℕ → ℕ) → ℕ → ℕ
wrote None f a = f a
wrote (Some w) f a = pick (w.place == a) w.after (f a)

-- what was there is what was before
abbrev pub Was : Option Written → (ℕ → ℕ) → Type 0
Was None f = Unit {0}
Was (Some w) f = w.before ≡ f w.place

abbrev pub Words : List ℕ → Model → Type 0
Words ws s = (a : ℕ) → word_at s.words a ≡ slice_index ws a

-- a state's moment, but for the step that came to it; a state that is kept is one that runs
pub record At (m : Moment) (s : Model) : Type 0 where
  pub place : s.at ≡ m.at
  pub registers : s.regs ≡ m.regs
  pub took : s.taken ≡ m.taken
  pub runs : s.status ≡ running

-- a step from a state to another, with the moment that it came to
pub record Came (m : Moment) (s t : Model) : Type 0 where
  pub now : At m t
  pub words : (a : ℕ) → word_at t.words a ≡ wrote m.written (word_at s.words) a
  pub was : Was m.written (word_at s.words)
  pub out : t.out ≡ s.out ++ option_to_list m.out

abbrev pub status_of : Why → Status
status_of Halted = halted
status_of Waits = waiting
status_of NoInstr = wrong 1
status_of NoWord = wrong 2
status_of ByZero = wrong 3

-- from a state to what its definition makes of it
abbrev pub Next : Result Moment Why → Model → Model → Type 0
Next (Ok m) s t = Came m s t
Next (Err y) s t = t.status ≡ status_of y

abbrev pub first_moment : Moment
first_moment = record { at = 0; regs = replicate 16 0; taken = 0; written = None; out = None }

abbrev pub moved_to : Moment → ℕ → Moment
moved_to m k = record { at = k; regs = m.regs; taken = m.taken; written = None; out = None }

abbrev pub set_reg : Moment → ℕ → ℕ → Moment
set_reg m k v = record { at = m.at + 1; regs = slice_set m.regs k v; taken = m.taken; written = None; out = None }
