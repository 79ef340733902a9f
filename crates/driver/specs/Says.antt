-- What is said to the debugger on a processor, and how it is answered. Assumes nothing: these are definitions.
use Rattle.std.specs.Prelude.{◌≡◌, ℕ, ◌%◌, ◌<◌, ◌≤◌, Bool, List, length, Ok, Err, Result}
use Rattle.command.specs.Plain.{Command, Plain}
use Rattle.target.specs.Run.{Event, said, Target, Ran, world, runs}
use Rattle.machine.specs.Engine.{own, cell, fed}
use Rattle.machine.specs.Promise.{May, Holds, most_turns}
use Rattle.driver.specs.Refusals.{refusal_number}
use Rattle.driver.specs.declared.refusal.SayError.{SayError}
use Rattle.driver.specs.declared.refusal.SayError.TheVariants.{Refused as NotDone, NoMemory as Wants}
use Rattle.driver.specs.declared.refusal.Refusal.TheVariants.{Never}
use Rattle.driver.specs.declared.event.Ending.{Ending}
use Rattle.driver.specs.declared.event.Ending.TheVariants.{Done, Refused, NoMemory, ShownTwice}

abbrev pub limit : ℕ
limit = 18446744073709551616

-- the memory counts what has come in
abbrev pub Counted : Target → (memory : List ℕ) → Type 0
Counted t m = length t.fed ≡ cell m fed

-- so many turns before its end a run is here; steps are counted in 64 bits
unfoldable pub OnTheWay : ℕ → (Target → Type 0) → (memory : List ℕ) → Event → List (List ℕ) → (steps : ℕ) → Ran → Type 0
OnTheWay n like m ev ss steps whole =
    (t : Target) × like t × Counted t m × ((k : ℕ) × (steps ≡ k % limit) × (runs n own (world t m) ev ss k ≡ whole))

-- what a command that made so many steps is answered
abbrev pub answer_of : Ending → (steps : ℕ) → Result ℕ SayError
answer_of Done steps = Ok steps
answer_of (Refused why) steps = Err (NotDone why steps)
answer_of NoMemory steps = Err Wants
answer_of ShownTwice steps = Err (NotDone Never steps)

-- a run that ends so, in all that it leaves
abbrev pub EndedAs : Ran → (end steps : ℕ) → (Target → Type 0) → (memory : List ℕ) → List (List ℕ) → Type 0
EndedAs r end steps like m ss =
    (end ≡ r.end) × (steps ≡ r.steps % limit) × like r.here.target × Counted r.here.target m × (m ≡ r.here.memory) × (ss ≡ r.showed)

-- how it went is how the run went: done with 0, or refused with a number; memory is wanted only where there is not enough for what may go out in a stride
abbrev pub WentAs : Ran → Result ℕ SayError → (room : ℕ) → (Target → Type 0) → (memory : List ℕ) → List (List ℕ) → Type 0
WentAs r (Ok steps) room like m ss = EndedAs r 0 steps like m ss
WentAs r (Err (NotDone why steps)) room like m ss = EndedAs r (refusal_number why) steps like m ss
WentAs r (Err Wants) room like m ss = room < 4096

-- for every target that the processor is like, if no more than one text is shown
unfoldable pub Went : (Target → Type 0) → (memory : List ℕ) → List (List ℕ) → (text : List ℕ) → Result ℕ SayError → (room : ℕ) → (Target → Type 0) → (memory₁ : List ℕ) → List (List ℕ) → Type 0
Went like m ss text r room like₁ m₁ ss₁ =
    (t : Target) → like t → Counted t m → length (runs most_turns own (world t m) (said text) ss 0).showed ≤ 1 →
    WentAs (runs most_turns own (world t m) (said text) ss 0) r room like₁ m₁ ss₁

-- a processor and a memory from which so many commands more go as promised, and where the plain debugger is then
unfoldable pub Stands : ℕ → (Command → Bool) → (Target → Type 0) → (memory : List ℕ) → Plain → Type 0
Stands left known like m w = (t : Target) × like t × Counted t m × Holds left known own (world t m) w

abbrev pub AnsweredAs : ℕ → (Command → Bool) → Plain → (text : List ℕ) → (end steps : ℕ) → (Target → Type 0) → (memory : List ℕ) → List (List ℕ) → Type 0
AnsweredAs left known w text end steps like m ss =
    (r : Ran) × (w₁ : Plain) × (end ≡ r.end) × (steps ≡ r.steps % limit) × (ss ≡ r.showed) × May known w text r w₁ × Stands left known like m w₁

-- what was answered is what the plain debugger says, within the steps granted, and the session stands for the next one
unfoldable pub Answered : ℕ → (Command → Bool) → Plain → (text : List ℕ) → Result ℕ SayError → (room : ℕ) → (Target → Type 0) → (memory : List ℕ) → List (List ℕ) → Type 0
Answered left known w text (Ok steps) room like m ss = AnsweredAs left known w text 0 steps like m ss
Answered left known w text (Err (NotDone why steps)) room like m ss = AnsweredAs left known w text (refusal_number why) steps like m ss
Answered left known w text (Err Wants) room like m ss = room < 4096
