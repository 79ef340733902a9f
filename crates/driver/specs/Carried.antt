-- What comes of an act that is carried to a processor. Assumes nothing: these are definitions.
use Rattle.std.specs.Prelude.{◌≡◌, ℕ, ◌+◌, ◌<◌, ◌≤◌, List, [], ◌∷◌, length, take, Ok, Err, Result}
use Rattle.target.specs.Run as run
use Rattle.target.specs.Run.{Act, shows, Target, World, Ran, ran, world, one_act}
use Rattle.target.specs.Whys.{why_number}
use Rattle.machine.specs.Entry.{ActTold}
use Rattle.machine.specs.Fair.{FairAct}
use Rattle.machine.specs.declared.acts.Told.{Told}
use Rattle.driver.specs.declared.event.Event.{Event}
use Rattle.driver.specs.declared.event.Event.TheVariants.{Said, Came, Saw, Next}
use Rattle.driver.specs.declared.event.Ending.{Ending}
use Rattle.driver.specs.declared.event.Ending.TheVariants.{Done, Refused, NoMemory, ShownTwice}
use Rattle.driver.specs.Refusals.{refusal_number}

-- the event, of a command and of what was looked at
abbrev pub meant : Event → (text seen : List ℕ) → run.Event
meant Said text seen = run.said text
meant (Came c) text seen = run.came c.by c.hit (why_number c.why)
meant (Saw n) text seen = run.saw (take n seen)
meant Next text seen = run.next

-- the steps that the processor made
abbrev pub steps_of : Event → ℕ
steps_of Said = 0
steps_of (Came c) = c.by
steps_of (Saw n) = 0
steps_of Next = 0

-- no more was looked at than there is room for
abbrev pub Sound : Event → ℕ → Type 0
Sound Said n = Unit {0}
Sound (Came c) n = Unit {0}
Sound (Saw k) n = k ≤ n
Sound Next n = Unit {0}

-- the same of what is told after an act, which is never a command
abbrev pub Follows : Event → ℕ → Type 0
Follows Said n = ⊥
Follows (Came c) n = Unit {0}
Follows (Saw k) n = k ≤ n
Follows Next n = Unit {0}

abbrev pub SoundHeard : Result Event Ending → ℕ → Type 0
SoundHeard (Ok ev) n = Follows ev n
SoundHeard (Err e) n = Unit {0}

-- a run that ends with this number, with all as it was
abbrev pub EndsSo : Act → Target → List (List ℕ) → (end : ℕ) → (Target → Type 0) → List (List ℕ) → Type 0
EndsSo a t ss e after ss₁ =
    after t × (ss₁ ≡ ss) × ((go : World → run.Event → List (List ℕ) → ℕ → Ran) (k : ℕ) (m : List ℕ) → one_act go t ss k m a ≡ ran (world t m) ss k e)

-- however the run goes on, it does so from there; memory is wanted only where less than a stride may go out
abbrev pub Carried : Act → Target → List (List ℕ) → Result Event Ending → (room : ℕ) → (Target → Type 0) → List (List ℕ) → (seen : List ℕ) → Type 0
Carried a t ss (Ok ev) room after ss₁ seen =
    (t₁ : Target) × after t₁
    × ((go : World → run.Event → List (List ℕ) → ℕ → Ran) (k : ℕ) (m : List ℕ) → one_act go t ss k m a ≡ go (world t₁ m) (meant ev [] seen) ss₁ (k + steps_of ev))
Carried a t ss (Err Done) room after ss₁ seen = EndsSo a t ss 0 after ss₁
Carried a t ss (Err (Refused why)) room after ss₁ seen = EndsSo a t ss (refusal_number why) after ss₁
Carried a t ss (Err NoMemory) room after ss₁ seen = room < 4096
Carried a t ss (Err ShownTwice) room after ss₁ seen = (s : List ℕ) × (a ≡ shows s) × (0 < length ss)

-- the same for every act that is told so and is fair, and every target that the processor is like
unfoldable pub Carries : Told → (row : List ℕ) → (Target → Type 0) → List (List ℕ) → Result Event Ending → (room : ℕ) → (Target → Type 0) → List (List ℕ) → (seen : List ℕ) → Type 0
Carries told row before ss h room after ss₁ seen =
    (t : Target) → before t → (a : Act) (row₀ : List ℕ) → ActTold a told row₀ row → (f : ℕ) → FairAct a (length t.fed) f → Carried a t ss h room after ss₁ seen

-- the same of acts that show nothing, whatever was shown
abbrev pub EndsThere : Act → Target → (end : ℕ) → (Target → Type 0) → Type 0
EndsThere a t e after =
    after t × ((go : World → run.Event → List (List ℕ) → ℕ → Ran) (ss : List (List ℕ)) (k : ℕ) (m : List ℕ) → one_act go t ss k m a ≡ ran (world t m) ss k e)

abbrev pub Served : Act → Target → Result Event Ending → (room : ℕ) → (Target → Type 0) → (seen : List ℕ) → Type 0
Served a t (Ok ev) room after seen =
    (t₁ : Target) × after t₁
    × ((go : World → run.Event → List (List ℕ) → ℕ → Ran) (ss : List (List ℕ)) (k : ℕ) (m : List ℕ) → one_act go t ss k m a ≡ go (world t₁ m) (meant ev [] seen) ss (k + steps_of ev))
Served a t (Err Done) room after seen = EndsThere a t 0 after
Served a t (Err (Refused why)) room after seen = EndsThere a t (refusal_number why) after
Served a t (Err NoMemory) room after seen = room < 4096
Served a t (Err ShownTwice) room after seen = ⊥

unfoldable pub Serves : Told → (row : List ℕ) → (Target → Type 0) → Result Event Ending → (room : ℕ) → (Target → Type 0) → (seen : List ℕ) → Type 0
Serves told row before h room after seen =
    (t : Target) → before t → (a : Act) (row₀ : List ℕ) → ActTold a told row₀ row → (f : ℕ) → FairAct a (length t.fed) f → Served a t h room after seen

-- a text on the screen: there is no longer one than the row, and one before it stays
abbrev pub Shown : Result Event Ending → (count : ℕ) → (row : List ℕ) → (before after : List (List ℕ)) → Type 0
Shown (Ok ev) count row before after = (ev ≡ Next) × (before ≡ []) × (after ≡ take count row ∷ [])
Shown (Err Done) count row before after = ⊥
Shown (Err (Refused why)) count row before after = (length row < count) × (after ≡ before)
Shown (Err NoMemory) count row before after = ⊥
Shown (Err ShownTwice) count row before after = 0 < length before
