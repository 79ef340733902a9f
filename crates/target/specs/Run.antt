-- A debugger beside a processor that it steers, whatever it is like inside. Assumes nothing: these are definitions.
use Rattle.std.specs.Prelude.{◌≡◌, ℕ, zero, suc, ◌+◌, ◌≤◌, Bool, true, false, not, ◌&&◌, ltb, List, [], ◌∷◌, ◌++◌, length, take, drop, ◌==◌, nat_eq, nat_le, nat_lt}
use Rattle.command.specs.Machine.{pick, every, any, those, Instr, State, step, is_running, at_start, word_at}
use Rattle.command.specs.Plain.{Break, holds, status_number}

-- what the debugger is told: a command; how far the processor came, whether a break holds, and why it doesn't go on, if it doesn't; what was looked at;
-- that the last act is done
pub data Event : Type 0 where
  said : List ℕ → Event
  came : ℕ → Bool → ℕ → Event
  saw : List ℕ → Event
  next : Event

-- what it does: a program; something more to come in; so many steps at most, till a break holds; its state kept, by a number below 256, and taken up
-- again; registers, words, what went out, and where it is, looked at; and shows, done, refused
pub data Act : Type 0 where
  starts : List Instr → Act
  feeds : List ℕ → Act
  goes : ℕ → List Break → Act
  keeps : ℕ → Act
  takes_up : ℕ → Act
  looks_regs : Act
  looks_words : ℕ → ℕ → Act
  looks_outs : ℕ → ℕ → Act
  looks_where : Act
  shows : List ℕ → Act
  done : Act
  refused : ℕ → Act

pub record Step : Type 0 where
  pub memory : List ℕ
  pub act : Act

pub record Engine : Type 0 where
  pub start : List ℕ
  pub step : List ℕ → Event → Step

pub record Slot : Type 0 where
  pub number : ℕ
  pub state : State

-- the processor: its program, all that was fed, its state, and states kept
pub record Target : Type 0 where
  pub program : List Instr
  pub fed : List ℕ
  pub state : State
  pub slots : List Slot

pub record World : Type 0 where
  pub target : Target
  pub memory : List ℕ

pub record Ran : Type 0 where
  pub here : World
  pub showed : List (List ℕ)
  pub steps : ℕ
  pub end : ℕ  -- 0 done, a refusal, 1000 still at it, 1001 a fault

abbrev pub fresh_target : List Instr → Target
fresh_target is = record { program = is; fed = []; state = at_start; slots = [] }

abbrev pub with_state : Target → State → Target
with_state t s = record { program = t.program; fed = t.fed; state = s; slots = t.slots }

-- how far it came
pub record Came : Type 0 where
  pub state : State
  pub by : ℕ
  pub hit : Bool
  pub why : ℕ

abbrev pub came_to : State → ℕ → Bool → ℕ → Came
came_to s k h y = record { state = s; by = k; hit = h; why = y }

-- a step that can't be done leaves the state as it was
unfoldable pub going : ℕ → List Instr → List ℕ → List Break → State → ℕ → Came
going zero is ins bs s k = came_to s k false 0
going (suc n) is ins bs s k =
    let t : State = step is ins s in
    pick (is_running t.status)
    (pick (any (holds s t) bs) (came_to t (suc k) true 0) (going n is ins bs t (suc k)))
    (came_to s k false (status_number t.status))

unfoldable pub slot_of : List Slot → ℕ → List State
slot_of [] k = []
slot_of (s ∷ ss) k = pick (s.number == k) (s.state ∷ []) (slot_of ss k)

abbrev pub keep_in : Target → ℕ → Target
keep_in t k = record { program = t.program; fed = t.fed; state = t.state; slots = record { number = k; state = t.state } ∷ those (λ s. not (s.number == k)) t.slots }

abbrev pub world : Target → List ℕ → World
world t m = record { target = t; memory = m }

abbrev pub ran : World → List (List ℕ) → ℕ → ℕ → Ran
ran w ss k e = record { here = w; showed = ss; steps = k; end = e }

unfoldable pub taken_up : (World → Event → List (List ℕ) → ℕ → Ran) → Target → List (List ℕ) → ℕ → List ℕ → List State → Ran
taken_up go t ss k m [] = ran (world t m) ss k 1001
taken_up go t ss k m (s ∷ rs) = go (world (with_state t s) m) next ss k

unfoldable pub words_of : Target → ℕ → ℕ → List ℕ
words_of t a zero = []
words_of t a (suc n) = word_at t.state.words a ∷ words_of t (suc a) n

-- a refusal has a number below 1,000, and not 0: anything else is a fault
abbrev pub refusal_end : ℕ → ℕ
refusal_end k = pick (nat_le 1 k && nat_lt k 1000) k 1001

unfoldable pub one_act : (World → Event → List (List ℕ) → ℕ → Ran) → Target → List (List ℕ) → ℕ → List ℕ → Act → Ran
one_act go t ss k m (starts is) = pick (nat_le (length is) 4096) (go (world (fresh_target is) m) next ss k) (ran (world t m) ss k 1001)
one_act go t ss k m (feeds vs) = go (world (record { program = t.program; fed = t.fed ++ vs; state = t.state; slots = t.slots }) m) next ss k
one_act go t ss k m (goes n bs) =
    pick (nat_le (length bs) 64)
    (let c : Came = going n t.program t.fed bs t.state 0 in
    go (world (with_state t c.state) m) (came c.by c.hit c.why) ss (k + c.by)) (ran (world t m) ss k 1001)
one_act go t ss k m (keeps j) = pick (nat_lt j 256) (go (world (keep_in t j) m) next ss k) (ran (world t m) ss k 1001)
one_act go t ss k m (takes_up j) = taken_up go t ss k m (slot_of t.slots j)
one_act go t ss k m looks_regs = go (world t m) (saw t.state.regs) ss k
one_act go t ss k m (looks_words a n) = pick (nat_le n 4096) (go (world t m) (saw (words_of t a n)) ss k) (ran (world t m) ss k 1001)
one_act go t ss k m (looks_outs a n) = pick (nat_le n 4096) (go (world t m) (saw (take n (drop a t.state.out))) ss k) (ran (world t m) ss k 1001)
one_act go t ss k m looks_where = go (world t m) (saw (t.state.at ∷ status_number (step t.program t.fed t.state).status ∷ [])) ss k
one_act go t ss k m (shows s) = go (world t m) next (ss ++ s ∷ []) k
one_act go t ss k m done = ran (world t m) ss k 0
one_act go t ss k m (refused j) = ran (world t m) ss k (refusal_end j)

unfoldable pub runs : ℕ → Engine → World → Event → List (List ℕ) → ℕ → Ran
runs zero e w ev ss k = ran w ss k 1000
runs (suc n) e w ev ss k =
    one_act (λ w₁ ev₁ ss₁ k₁. runs n e w₁ ev₁ ss₁ k₁) w.target ss k (e.step w.memory ev).memory (e.step w.memory ev).act

unfoldable pub all_small : List ℕ → Bool
all_small ms = every (λ m. ltb m 18446744073709551616) ms

-- memory is all 0 at the start; it never grows, nor do its numbers beyond 64 bits
unfoldable pub Steady : Engine → Type 0
Steady e =
    (length e.start ≤ 32000) × (every (λ m. nat_eq m 0) e.start ≡ true)
    × ((m : List ℕ) (ev : Event) → (length (e.step m ev).memory ≡ length m) × (all_small m ≡ true → all_small (e.step m ev).memory ≡ true))
