-- What a processor's methods promise, by what a run makes of the act that each stands for. Assumes nothing: these are definitions.
use Rattle.std.specs.Prelude.{◌≡◌, ℕ, ◌+◌, ◌<◌, ◌≤◌, List, [], ◌∷◌, length, take, drop, Ok, Err, Result}
use Rattle.command.specs.declared.code.Instr.{Instr as Code}
use Rattle.command.specs.declared.breaks.Break.{Break}
use Rattle.command.specs.Codes.{codes}
use Rattle.command.specs.Breaks.{breaks_of}
use Rattle.target.specs.Run.{Event, came, saw, next, Act, starts, feeds, goes, keeps, takes_up, looks_regs, looks_words, looks_outs, looks_where, Target, World, Ran, ran, world, fresh_target, one_act}
use Rattle.target.specs.Whys.{why_number}
use Rattle.target.specs.declared.answers.Came.{Came}
use Rattle.target.specs.declared.answers.Spot.{Spot}
use Rattle.target.specs.declared.answers.Fault.{Fault}
use Rattle.target.specs.declared.answers.Fault.TheVariants.{TooLong, TooManyBreaks, NoSuchSlot, EmptySlot, TooManyNumbers, NoMemory}

-- the act is done: however a run goes on, it goes on from there with that event, so many steps later
abbrev pub Does : Act → Event → ℕ → (before after : Target → Type 0) → Type 0
Does a ev by before after =
    (t : Target) → before t →
    (t₁ : Target) × after t₁ × ((go : World → Event → List (List ℕ) → ℕ → Ran) (ss : List (List ℕ)) (k : ℕ) (m : List ℕ) → one_act go t ss k m a ≡ go (world t₁ m) ev ss (k + by))

-- the act is refused: a run ends there with a fault, and nothing changed
abbrev pub Refuses : Act → (before after : Target → Type 0) → Type 0
Refuses a before after =
    (t : Target) → before t →
    after t × ((go : World → Event → List (List ℕ) → ℕ → Ran) (ss : List (List ℕ)) (k : ℕ) (m : List ℕ) → one_act go t ss k m a ≡ ran (world t m) ss k 1001)

-- each fault only where it applies; beginning, keeping and taking up never want memory
abbrev pub Begins : List Code → (before after : Target → Type 0) → ℕ → {A : Type 0} → Result A Fault → Type 0
Begins is before after room (Ok x) = (length is ≤ 4096) × (4096 ≤ room) × after (fresh_target (codes is)) × Does (starts (codes is)) next 0 before after
Begins is before after room (Err TooLong) = (4096 < length is) × Refuses (starts (codes is)) before after
Begins is before after room (Err TooManyBreaks) = ⊥
Begins is before after room (Err NoSuchSlot) = ⊥
Begins is before after room (Err EmptySlot) = ⊥
Begins is before after room (Err TooManyNumbers) = ⊥
Begins is before after room (Err NoMemory) = ⊥

-- as much as the debugger lets come in has room; more may want memory
abbrev pub Feeds : List ℕ → (before after : Target → Type 0) → {A : Type 0} → Result A Fault → Type 0
Feeds vs before after (Ok x) = Does (feeds vs) next 0 before after
Feeds vs before after (Err TooLong) = ⊥
Feeds vs before after (Err TooManyBreaks) = ⊥
Feeds vs before after (Err NoSuchSlot) = ⊥
Feeds vs before after (Err EmptySlot) = ⊥
Feeds vs before after (Err TooManyNumbers) = ⊥
Feeds vs before after (Err NoMemory) = (t : Target) → before t → (65536 < length t.fed + length vs) × after t

-- memory is wanted only where more might go out than there was sure to be room for
abbrev pub Goes : ℕ → List Break → ℕ → (before after : Target → Type 0) → Result Came Fault → Type 0
Goes n bs room before after (Ok c) = (length bs ≤ 64) × Does (goes n (breaks_of bs)) (came c.by c.hit (why_number c.why)) c.by before after
Goes n bs room before after (Err TooLong) = ⊥
Goes n bs room before after (Err TooManyBreaks) = (64 < length bs) × Refuses (goes n (breaks_of bs)) before after
Goes n bs room before after (Err NoSuchSlot) = ⊥
Goes n bs room before after (Err EmptySlot) = ⊥
Goes n bs room before after (Err TooManyNumbers) = ⊥
Goes n bs room before after (Err NoMemory) = (length bs ≤ 64) × ((t : Target) → before t → (room < n) × after t)

-- and where it is wanted, there still is too little room
abbrev pub Wanting : ℕ → ℕ → (before : Target → Type 0) → Result Came Fault → Type 0
Wanting n room₁ before (Ok c) = Unit {0}
Wanting n room₁ before (Err TooLong) = Unit {0}
Wanting n room₁ before (Err TooManyBreaks) = Unit {0}
Wanting n room₁ before (Err NoSuchSlot) = Unit {0}
Wanting n room₁ before (Err EmptySlot) = Unit {0}
Wanting n room₁ before (Err TooManyNumbers) = Unit {0}
Wanting n room₁ before (Err NoMemory) = (t : Target) → before t → room₁ < n

abbrev pub Keeps : ℕ → (before after : Target → Type 0) → {A : Type 0} → Result A Fault → Type 0
Keeps j before after (Ok x) = (j < 256) × Does (keeps j) next 0 before after
Keeps j before after (Err TooLong) = ⊥
Keeps j before after (Err TooManyBreaks) = ⊥
Keeps j before after (Err NoSuchSlot) = (256 ≤ j) × Refuses (keeps j) before after
Keeps j before after (Err EmptySlot) = ⊥
Keeps j before after (Err TooManyNumbers) = ⊥
Keeps j before after (Err NoMemory) = ⊥

abbrev pub TakesUp : ℕ → (before after : Target → Type 0) → {A : Type 0} → Result A Fault → Type 0
TakesUp j before after (Ok x) = (j < 256) × Does (takes_up j) next 0 before after
TakesUp j before after (Err TooLong) = ⊥
TakesUp j before after (Err TooManyBreaks) = ⊥
TakesUp j before after (Err NoSuchSlot) = (256 ≤ j) × Refuses (takes_up j) before after
TakesUp j before after (Err EmptySlot) = (j < 256) × Refuses (takes_up j) before after
TakesUp j before after (Err TooManyNumbers) = ⊥
TakesUp j before after (Err NoMemory) = ⊥

abbrev pub TellsRegs : (Target → Type 0) → List ℕ → Type 0
TellsRegs like vs = Does looks_regs (saw vs) 0 like like

abbrev pub TellsWords : ℕ → (row row₁ : List ℕ) → (Target → Type 0) → {A : Type 0} → Result A Fault → Type 0
TellsWords a row row₁ like (Ok x) = (length row ≤ 4096) × Does (looks_words a (length row)) (saw row₁) 0 like like
TellsWords a row row₁ like (Err TooLong) = ⊥
TellsWords a row row₁ like (Err TooManyBreaks) = ⊥
TellsWords a row row₁ like (Err NoSuchSlot) = ⊥
TellsWords a row row₁ like (Err EmptySlot) = ⊥
TellsWords a row row₁ like (Err TooManyNumbers) = (4096 < length row) × (row₁ ≡ row) × Refuses (looks_words a (length row)) like like
TellsWords a row row₁ like (Err NoMemory) = ⊥

-- what is told stands first, and the rest of the row stays
abbrev pub TellsOuts : ℕ → (row row₁ : List ℕ) → (Target → Type 0) → Result ℕ Fault → Type 0
TellsOuts a row row₁ like (Ok n) =
    (length row ≤ 4096) × (n ≤ length row) × (drop n row₁ ≡ drop n row) × Does (looks_outs a (length row)) (saw (take n row₁)) 0 like like
TellsOuts a row row₁ like (Err TooLong) = ⊥
TellsOuts a row row₁ like (Err TooManyBreaks) = ⊥
TellsOuts a row row₁ like (Err NoSuchSlot) = ⊥
TellsOuts a row row₁ like (Err EmptySlot) = ⊥
TellsOuts a row row₁ like (Err TooManyNumbers) = (4096 < length row) × (row₁ ≡ row) × Refuses (looks_outs a (length row)) like like
TellsOuts a row row₁ like (Err NoMemory) = ⊥

abbrev pub TellsSpot : (Target → Type 0) → Spot → Type 0
TellsSpot like p = Does looks_where (saw (p.at ∷ why_number p.why ∷ [])) 0 like like
