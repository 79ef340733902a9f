-- How a step of the debugger is told to the world outside. Assumes nothing: these are definitions.
use Rattle.std.specs.Prelude.{◌≡◌, ℕ, Bool, true, false, ◌&&◌, List, [], ◌∷◌, ◌++◌, length, drop, ◌==◌, nat_le}
use Rattle.command.specs.Machine.{pick, flat}
use Rattle.command.specs.Plain.{instr_spelled, break_spelled}
use Rattle.target.specs.Run.{Event, said, came, saw, next, Act, starts, feeds, goes, keeps, takes_up, looks_regs, looks_words, looks_outs, looks_where, shows, done, refused}
use Rattle.machine.specs.Engine.{Plan, written, own}
use Rattle.machine.specs.declared.acts.Told.{Told}
use Rattle.machine.specs.declared.acts.Told.TheVariants.{Starts, Feeds, Goes, Keeps, TakesUp, Looks, Shows, Done, No}
use Rattle.machine.specs.declared.acts.Look.TheVariants.{Registers, Words, Outs, Place}
use Rattle.machine.specs.declared.acts.Refusal.{Refusal}
use Rattle.machine.specs.declared.acts.Refusal.TheVariants.{Unfit, Unexpected, Unknown, Full}

-- what is told is a kind, three numbers, and some bytes or words: 0 a command, 1 how far it came, whether a break holds and why it stopped, 2 what was
-- looked at, 3 go on
abbrev pub event_of : ℕ → ℕ → ℕ → ℕ → List ℕ → Event
event_of k a b c bs = pick (k == 0) (said bs) (pick (k == 1) (came a (b == 1) c) (pick (k == 2) (saw bs) next))

-- no two reasons have the same number, so the number says which it is
abbrev pub refusal_number : Refusal → ℕ
refusal_number Unfit = 0
refusal_number Unexpected = 1
refusal_number Unknown = 2
refusal_number Full = 7

abbrev pub Refuses : ℕ → Told → Type 0
Refuses k r = (why : Refusal) × (refusal_number why ≡ k) × (r ≡ No why)

-- a row with some numbers in place of as many at its front
abbrev pub on_row : List ℕ → List ℕ → List ℕ
on_row bs out = bs ++ drop (length bs) out

abbrev pub ActTold : Act → Told → (out out₁ : List ℕ) → Type 0
ActTold (starts is) r out out₁ = (r ≡ Starts (length is)) × (out₁ ≡ on_row (flat instr_spelled is) out)
ActTold (feeds vs) r out out₁ = (r ≡ Feeds (length vs)) × (out₁ ≡ on_row vs out)
ActTold (goes n bs) r out out₁ = (r ≡ Goes n) × (out₁ ≡ on_row (length bs ∷ flat break_spelled bs) out)
ActTold (keeps k) r out out₁ = (r ≡ Keeps k) × (out₁ ≡ out)
ActTold (takes_up k) r out out₁ = (r ≡ TakesUp k) × (out₁ ≡ out)
ActTold looks_regs r out out₁ = (r ≡ Looks Registers) × (out₁ ≡ out)
ActTold (looks_words a n) r out out₁ = (r ≡ Looks Words) × (out₁ ≡ on_row (a ∷ n ∷ []) out)
ActTold (looks_outs a n) r out out₁ = (r ≡ Looks Outs) × (out₁ ≡ on_row (a ∷ n ∷ []) out)
ActTold looks_where r out out₁ = (r ≡ Looks Place) × (out₁ ≡ out)
ActTold (shows s) r out out₁ = (r ≡ Shows (length s)) × (out₁ ≡ on_row s out)
ActTold done r out out₁ = (r ≡ Done) × (out₁ ≡ out)
ActTold (refused k) r out out₁ = Refuses k r × (out₁ ≡ out)

-- a plan carried out, as the code tells it: its result, and the memory and the row after it
abbrev pub Carries : Plan → (memory : List ℕ) → Told → (out memory₁ out₁ : List ℕ) → Type 0
Carries p m r out m₁ out₁ = (m₁ ≡ written p.writes m) × ActTold p.act r out out₁

-- one step: for memories of the debugger's own length and a lent row of 65,536 numbers; for others it is told that they are unfit and nothing is changed
unfoldable pub StepSays : (memory : List ℕ) (kind a b c : ℕ) (told out : List ℕ) → Bool → Told → (memory₁ out₁ : List ℕ) → Type 0
StepSays memory kind a b c told out true r memory₁ out₁ =
    (memory₁ ≡ (own.step memory (event_of kind a b c told)).memory) × ActTold (own.step memory (event_of kind a b c told)).act r out out₁
StepSays memory kind a b c told out false r memory₁ out₁ = (r ≡ No Unfit) × (memory₁ ≡ memory) × (out₁ ≡ out)

unfoldable pub step_fits : (memory : List ℕ) (kind : ℕ) (out : List ℕ) → Bool
step_fits memory kind out = length memory == length own.start && (nat_le kind 3 && nat_le 65536 (length out))
