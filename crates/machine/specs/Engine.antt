-- The debugger as a machine with a memory: its cells, its phases, and one step. Assumes nothing: these are definitions.
use Rattle.std.specs.Prelude.{ℕ, zero, suc, ◌+◌, ◌-◌, ◌/◌, ◌%◌, Bool, true, false, not, ◌&&◌, List, [], ◌∷◌, ◌++◌, length, replicate, Some, None, Option, ◌==◌, nat_le, nat_lt, slice_index, slice_set}
use Rattle.command.specs.Machine.{pick, flat, eight, smaller}
use Rattle.command.specs.Plain.{Command, load, give, forward, back, run, rerun, changer, add_break, drop_break, where_now, registers, words_from, outs_from, core}
use Rattle.command.specs.Reader.{Read, none, some, read_command}
use Rattle.target.specs.Run.{Engine, Event, said, came, saw, next, Act, starts, feeds, goes, keeps, looks_regs, looks_words, looks_outs, looks_where, shows, done, refused, Step}
use Rattle.checkpoints.specs.Strides.{stride}
use Rattle.checkpoints.specs.Arrivals.{beginning_slot, arrival_slot, levels_reached}

-- MEMORY. A cell holds a number below 2^64; a cell that isn't there reads as 0.
abbrev pub limit : ℕ
limit = 18446744073709551616

unfoldable pub cell : List ℕ → ℕ → ℕ
cell m i = slice_index m i

pub record Write : Type 0 where
  pub to : ℕ
  pub value : ℕ

abbrev pub puts : ℕ → ℕ → Write
puts i v = record { to = i; value = v }

-- each number as 64 bits hold it
unfoldable pub written : List Write → List ℕ → List ℕ
written [] m = m
written (w ∷ ws) m = written ws (slice_set m w.to (w.value % limit))

-- What a step decides: what to put where, and what to do. It changes the memory by its writes alone.
pub record Plan : Type 0 where
  pub writes : List Write
  pub act : Act

abbrev pub plan : List Write → Act → Plan
plan ws a = record { writes = ws; act = a }

-- THE CELLS, as many as there may be for good. Those that last from command to command are the time, how much has come in, and the gaps.
abbrev pub cells : ℕ
cells = 32000

abbrev pub phase : ℕ
phase = 0

abbrev pub time : ℕ
time = 1

abbrev pub fed : ℕ
fed = 2

-- of the command under way: steps left, and the number of the next act of a plan
abbrev pub steps_left : ℕ
steps_left = 3

abbrev pub cursor : ℕ
cursor = 4

-- one a level: by how much the block that is built below falls short
abbrev pub gap : ℕ → ℕ
gap v = 16 + v

-- THE PHASES: what was done last, so what is to come
abbrev pub idle : ℕ
idle = 0

abbrev pub ending : ℕ
ending = 1

abbrev pub beginning : ℕ
beginning = 2

abbrev pub going_on : ℕ
going_on = 3

abbrev pub keeping : ℕ
keeping = 4

abbrev pub placing : ℕ
placing = 5

abbrev pub telling : ℕ
telling = 6

-- PLANS. An event that nothing waits for is refused, and changes nothing.
abbrev pub unexpected : Plan
unexpected = plan [] (refused 1)

-- a going on passes no multiple of this
abbrev pub spacing : ℕ
spacing = 4096

-- at a time, with so many steps left; ws is what else is to be written
unfoldable pub arrived : List Write → ℕ → Plan
arrived ws now = plan (puts phase ending ∷ ws) (shows (eight now))

unfoldable pub set_off : List Write → ℕ → ℕ → Plan
set_off ws now left = pick (left == 0) (arrived ws now) (plan (puts phase going_on ∷ ws) (goes (stride now left) []))

-- keep into a slot, if there is one more; else something else
unfoldable pub kept_or : Option ℕ → List Write → Plan → Plan
kept_or (Some k) ws p = plan ws (keeps k)
kept_or None ws p = p

-- the gaps of the levels that have a point here become 0
unfoldable pub gaps_shut : ℕ → List Write
gaps_shut zero = []
gaps_shut (suc n) = puts (gap n) 0 ∷ gaps_shut n

-- it came to a time, and so many steps are left: a multiple of the spacing that it has reached is kept first
unfoldable pub come_to : Bool → ℕ → ℕ → Plan
come_to true now left =
    kept_or (arrival_slot (now / spacing) 0) (puts phase keeping ∷ puts cursor 1 ∷ puts time now ∷ puts steps_left left ∷ gaps_shut (levels_reached (now / spacing)))
    (set_off (puts time now ∷ puts steps_left left ∷ []) now left)
come_to false now left = set_off (puts time now ∷ puts steps_left left ∷ []) now left

-- where it stopped, no steps are left
unfoldable pub went : List ℕ → ℕ → Bool → ℕ → Plan
went m by hit why =
    let now : ℕ = (cell m time + by) % limit in
    come_to (now % spacing == 0 && not (by == 0)) now (pick (not hit && why == 0) (cell m steps_left - by) 0)

-- a command begins
unfoldable pub begin : List ℕ → Command → Plan
begin m (load is) = plan (puts phase beginning ∷ puts cursor 0 ∷ puts time 0 ∷ puts fed 0 ∷ []) (starts is)
begin m (give vs) =
    pick (nat_lt 65536 (cell m fed + length vs)) (plan [] (refused 7)) (plan (puts phase ending ∷ puts fed (cell m fed + length vs) ∷ []) (feeds vs))
begin m (forward n) = set_off (puts steps_left n ∷ []) (cell m time) n
begin m (back n) = unexpected
begin m (run n) = unexpected
begin m (rerun n) = unexpected
begin m (changer a) = unexpected
begin m (add_break b) = unexpected
begin m (drop_break i) = unexpected
begin m where_now = plan (puts phase placing ∷ []) looks_where
begin m registers = plan (puts phase telling ∷ []) looks_regs
begin m (words_from a n) = plan (puts phase telling ∷ []) (looks_words a (smaller n (65536 - a)))
begin m (outs_from a n) = plan (puts phase telling ∷ []) (looks_outs a n)

-- one that is not known yet is refused with 2, and what is none with 1
unfoldable pub begin_read : List ℕ → Read → Plan
begin_read m none = plan [] (refused 1)
begin_read m (some c) = pick (core c) (begin m c) (plan [] (refused 2))

-- a command goes on, by its phase and what it is told
unfoldable pub on_came : ℕ → List ℕ → ℕ → Bool → ℕ → Plan
on_came p m by hit why = pick (p == going_on) (went m by hit why) unexpected

unfoldable pub on_saw : ℕ → List ℕ → List ℕ → Plan
on_saw p m xs =
    pick (p == placing) (plan (puts phase ending ∷ []) (shows (eight (cell m time) ++ eight (slice_index xs 0) ++ eight (slice_index xs 1))))
    (pick (p == telling && nat_le (length xs) 4096) (plan (puts phase ending ∷ []) (shows (flat eight xs))) unexpected)

unfoldable pub on_next : ℕ → List ℕ → Plan
on_next p m =
    pick (p == ending) (plan (puts phase idle ∷ []) done)
    (pick (p == beginning) (kept_or (beginning_slot (cell m cursor)) (puts cursor (suc (cell m cursor)) ∷ []) (plan (puts phase idle ∷ []) done))
    (pick (p == keeping)
    (kept_or (arrival_slot (cell m time / spacing) (cell m cursor)) (puts cursor (suc (cell m cursor)) ∷ []) (set_off [] (cell m time) (cell m steps_left)))
    unexpected))

unfoldable pub planned : List ℕ → Event → Plan
planned m (said text) = begin_read m (read_command text)
planned m (came by hit why) = on_came (cell m phase) m by hit why
planned m (saw xs) = on_saw (cell m phase) m xs
planned m next = on_next (cell m phase) m

-- THE ENGINE: a plan carried out; a memory of another length is left alone.
unfoldable pub carried : Bool → Plan → List ℕ → Step
carried true p m = record { memory = written p.writes m; act = p.act }
carried false p m = record { memory = m; act = refused 1 }

unfoldable pub own : Engine
own = record { start = replicate cells 0; step = λ m ev. carried (length m == cells) (planned m ev) m }
