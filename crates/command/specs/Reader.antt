-- The reader of commands: which command a text spells, if any. Assumes nothing: these are definitions.
-- A reader takes what it reads off the front of a text, and leaves the rest. A new command is one more way in `order_ways`.
use Rattle.std.specs.Prelude.{◌≡◌, ℕ, zero, suc, ◌+◌, ◌*◌, Bool, true, ltb, leb, List, [], ◌∷◌, ◌==◌, nat_le, nat_lt}
use Rattle.command.specs.Machine.{pick, Instr, load_number, copy, reckon, read, write, jump, jump_if, call, return, take_in, put_out, halt}
use Rattle.command.specs.Plain.{Test, Break, Command, load, give, forward, back, run, rerun, changer, add_break, drop_break, where_now, registers, words_from, outs_from, billion, spelled, fits}

-- a value and the rest of the text, or nothing
pub data Got (A : Type 0) : Type 0 where
  nothing : Got A
  got : A → List ℕ → Got A

abbrev pub Reader : Type 0 → Type 0
Reader A = List ℕ → Got A

-- go on with what was read
abbrev pub bind : {A B : Type 0} → Got A → (A → Reader B) → Got B
bind nothing k = nothing
bind (got a t) k = k a t

-- what was read, if it passes a test
abbrev pub only : {A : Type 0} → (A → Bool) → Got A → Got A
only p nothing = nothing
only p (got a t) = pick (p a) (got a t) nothing

-- nothing of the text
abbrev pub empty : Reader (Unit {0})
empty t = got tt t

-- the first number of the text
unfoldable pub first : Reader ℕ
first [] = nothing
first (b ∷ t) = got b t

abbrev pub byte : (ℕ → Bool) → Reader ℕ
byte p t = only p (first t)

-- so many bytes more, the highest first, behind what was read so far
unfoldable pub bytes : ℕ → ℕ → Reader ℕ
bytes zero n t = got n t
bytes (suc k) n t = bind (byte (λ b. ltb b 256) t) (λ b u. bytes k (n * 256 + b) u)

abbrev pub number : (ℕ → Bool) → Reader ℕ
number p t = only p (bytes 8 0 t)

-- one thing and then another, which may depend on it
abbrev pub both : {A B : Type 0} → Reader A → (A → Reader B) → Reader (A × B)
both r s t = bind (r t) (λ a u. bind (s a u) (λ b v. got (a, b) v))

-- the same, put into another form
abbrev pub as_a : {A B : Type 0} → (A → B) → Reader A → Reader B
as_a f r t = bind (r t) (λ a u. got (f a) u)

-- so many things
unfoldable pub so_many : {A : Type 0} → Reader A → ℕ → Reader (List A)
so_many r zero t = got [] t
so_many r (suc n) t = bind (r t) (λ a u. bind (so_many r n u) (λ xs v. got (a ∷ xs) v))

-- a count, up to a limit, and then so many things
abbrev pub counted : {A : Type 0} → ℕ → Reader A → Reader (List A)
counted max r t = bind (number (λ n. leb n max) t) (λ n u. so_many r n u)

-- one of several, by the first number
pub record Way (A : Type 0) : Type 0 where
  pub tag : ℕ
  pub then : Reader A

abbrev pub way : {A : Type 0} → ℕ → Reader A → Way A
way k r = record { tag = k; then = r }

abbrev pub one_of : {A : Type 0} → List (Way A) → ℕ → Reader A
one_of [] k t = nothing
one_of (w ∷ ws) k t = pick (k == w.tag) (w.then t) (one_of ws k t)

abbrev pub by_first : {A : Type 0} → List (Way A) → Reader A
by_first ws t = bind (first t) (one_of ws)

-- the parts of commands
abbrev pub below : ℕ → ℕ → Bool
below n k = nat_lt k n

abbrev pub up_to : ℕ → ℕ → Bool
up_to n k = nat_le k n

abbrev pub register : Reader ℕ
register = byte (below 16)

abbrev pub place : Reader ℕ
place = number (below 65536)

abbrev pub word : Reader ℕ
word = number (below 4294967296)

abbrev pub steps : Reader ℕ
steps = number (up_to billion)

abbrev pub any_number : Reader ℕ
any_number = number (below 18446744073709551616)

abbrev pub two : Reader ℕ → Reader ℕ → Reader (ℕ × ℕ)
two r s = both r (λ a. s)

abbrev pub instr_ways : List (Way Instr)
instr_ways =
    way 0 (as_a (λ p. load_number p.0 p.1) (two register word))
    ∷ way 1 (as_a (λ p. copy p.0 p.1) (two register register))
    ∷ way 2 (as_a (λ p. reckon p.0 p.1.0 p.1.1) (both (byte (below 10)) (λ o. two register register)))
    ∷ way 3 (as_a (λ p. read p.0 p.1.0 p.1.1) (both register (λ k. two register place)))
    ∷ way 4 (as_a (λ p. write p.0 p.1.0 p.1.1) (both register (λ k. two register place)))
    ∷ way 5 (as_a jump place)
    ∷ way 6 (as_a (λ p. jump_if p.0.0 p.0.1 p.1.0 p.1.1) (both (two (byte (below 4)) register) (λ ck. two register place)))
    ∷ way 7 (as_a call place)
    ∷ way 8 (as_a (λ u. return) empty)
    ∷ way 9 (as_a take_in register)
    ∷ way 10 (as_a put_out register)
    ∷ way 11 (as_a (λ u. halt) empty)
    ∷ []

unfoldable pub instr : Reader Instr
instr = by_first instr_ways

-- a register or a word, by its kind
abbrev pub which_below : ℕ → ℕ
which_below kind = pick (kind == 0) 16 65536

abbrev pub subject : Reader (ℕ × ℕ)
subject = both (byte (below 2)) (λ kind. number (below (which_below kind)))

abbrev pub a_test_of : (ℕ × ℕ) × (ℕ × ℕ) → Test
a_test_of p = record { kind = p.0.0; which = p.0.1; sign = p.1.0; value = p.1.1 }

abbrev pub test : Reader Test
test = as_a a_test_of (both subject (λ kw. two (byte (below 4)) word))

abbrev pub a_break_of : (List ℕ × List Test) × List ℕ → Break
a_break_of p = record { id = 0; place = p.0.0; tests = p.0.1; changed = p.1 }

unfoldable pub break : Reader Break
break = as_a a_break_of (both (both (counted 1 place) (λ p. counted 8 test)) (λ pt. counted 1 place))

-- commands but for those that have a list
abbrev pub order_ways : List (Way Command)
order_ways =
    way 3 (as_a forward steps)
    ∷ way 4 (as_a back steps)
    ∷ way 5 (as_a run steps)
    ∷ way 6 (as_a rerun steps)
    ∷ way 7 (as_a changer place)
    ∷ way 8 (as_a add_break break)
    ∷ way 9 (as_a drop_break any_number)
    ∷ way 10 (as_a (λ u. where_now) empty)
    ∷ way 11 (as_a (λ u. registers) empty)
    ∷ way 12 (as_a (λ p. words_from p.0 p.1) (two place (number (up_to 4096))))
    ∷ way 13 (as_a (λ p. outs_from p.0 p.1) (two any_number (number (up_to 4096))))
    ∷ []

abbrev pub command_ways : List (Way Command)
command_ways = way 1 (as_a load (counted 4096 instr)) ∷ way 2 (as_a give (counted 4096 word)) ∷ order_ways

unfoldable pub command : Reader Command
command = by_first command_ways

-- some command, or none
pub data Read : Type 0 where
  none : Read
  some : Command → Read

-- nothing may be left over
unfoldable pub all_of : Got Command → Read
all_of nothing = none
all_of (got c []) = some c
all_of (got c (b ∷ t)) = none

unfoldable pub read_command : List ℕ → Read
read_command t = all_of (command t)

-- what a text that is told may be: a command that fits, spelled so
abbrev pub Says : List ℕ → Command → Type 0
Says text c = (spelled c ≡ text) × (fits c ≡ true)
