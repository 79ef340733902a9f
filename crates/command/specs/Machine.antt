-- A processor, and what it does, step by step. Assumes nothing: these are definitions.
use Rattle.std.specs.Prelude.{ℕ, zero, suc, ◌+◌, ◌-◌, ◌*◌, ◌/◌, ◌%◌, Bool, true, false, not, ◌&&◌, ltb, List, [], ◌∷◌, ◌++◌, length, take, drop, ◌==◌, nat_le, nat_lt, slice_index}

abbrev pub pick : {A : Type 0} → Bool → A → A → A
pick true a b = a
pick false a b = b

abbrev pub or : Bool → Bool → Bool
or true b = true
or false b = b

abbrev pub every : {A : Type 0} → (A → Bool) → List A → Bool
every p [] = true
every p (x ∷ xs) = p x && every p xs

abbrev pub any : {A : Type 0} → (A → Bool) → List A → Bool
any p [] = false
any p (x ∷ xs) = or (p x) (any p xs)

abbrev pub each : {A B : Type 0} → (A → B) → List A → List B
each f [] = []
each f (x ∷ xs) = f x ∷ each f xs

abbrev pub those : {A : Type 0} → (A → Bool) → List A → List A
those p [] = []
those p (x ∷ xs) = pick (p x) (x ∷ those p xs) (those p xs)

abbrev pub flat : {A B : Type 0} → (A → List B) → List A → List B
flat f [] = []
flat f (x ∷ xs) = f x ++ flat f xs

abbrev pub added_up : {A : Type 0} → (A → ℕ) → List A → ℕ
added_up f [] = 0
added_up f (x ∷ xs) = f x + added_up f xs

abbrev pub none_of : {A : Type 0} → List A → Bool
none_of [] = true
none_of (x ∷ xs) = false

unfoldable pub same : List ℕ → List ℕ → Bool
same [] [] = true
same [] (y ∷ ys) = false
same (x ∷ xs) [] = false
same (x ∷ xs) (y ∷ ys) = x == y && same xs ys

unfoldable pub earlier : List ℕ → List ℕ → Bool
earlier [] [] = false
earlier [] (y ∷ ys) = true
earlier (x ∷ xs) [] = false
earlier (x ∷ xs) (y ∷ ys) = pick (nat_lt x y) true (x == y && earlier xs ys)

-- eight bytes, the highest first; and bytes with their count before them
unfoldable pub in_bytes : ℕ → ℕ → List ℕ → List ℕ
in_bytes zero n bs = bs
in_bytes (suc k) n bs = in_bytes k (n / 256) (n % 256 ∷ bs)

abbrev pub eight : ℕ → List ℕ
eight n = in_bytes 8 n []

abbrev pub with_length : List ℕ → List ℕ
with_length bs = eight (length bs) ++ bs

abbrev pub all_bytes : List ℕ → Bool
all_bytes bs = every (λ b. ltb b 256) bs

abbrev pub smaller : ℕ → ℕ → ℕ
smaller a b = pick (nat_lt a b) a b

abbrev pub larger : ℕ → ℕ → ℕ
larger a b = pick (nat_lt a b) b a

-- sixteen registers and 65,536 words of memory, numbers below 2^32; code apart from them
pub data Instr : Type 0 where
  load_number : ℕ → ℕ → Instr  -- a register, a number
  copy : ℕ → ℕ → Instr  -- to, from
  reckon : ℕ → ℕ → ℕ → Instr  -- 0 sum, 1 difference, 2 product, 3 quotient, 4 left over, 5 and, 6 or, 7 either, 8 shifted left, 9 right; to, by
  read : ℕ → ℕ → ℕ → Instr  -- to, the word at a register and a number
  write : ℕ → ℕ → ℕ → Instr  -- from, the word at a register and a number
  jump : ℕ → Instr
  jump_if : ℕ → ℕ → ℕ → ℕ → Instr  -- 0 equal, 1 unequal, 2 below, 3 not below; two registers; where
  call : ℕ → Instr  -- register 15 goes down by one, and the word there is where to go back
  return : Instr
  take_in : ℕ → Instr
  put_out : ℕ → Instr
  halt : Instr

pub record Word : Type 0 where
  pub at : ℕ
  pub value : ℕ

-- running; halted; wrong, with a number: 1 no such instruction, 2 no such word, 3 a quotient by 0; waiting for something to come in
pub data Status : Type 0 where
  running : Status
  halted : Status
  wrong : ℕ → Status
  waiting : Status

pub record State : Type 0 where
  pub at : ℕ
  pub regs : List ℕ
  pub words : List Word  -- those that were written, by rising place; all others are 0
  pub taken : ℕ  -- how much has come in
  pub out : List ℕ
  pub status : Status

unfoldable pub word_at : List Word → ℕ → ℕ
word_at [] a = 0
word_at (w ∷ ws) a = pick (w.at == a) w.value (word_at ws a)

unfoldable pub put_word : List Word → ℕ → ℕ → List Word
put_word [] a v = record { at = a; value = v } ∷ []
put_word (w ∷ ws) a v =
    pick (w.at == a) (record { at = a; value = v } ∷ ws) (pick (nat_lt a w.at) (record { at = a; value = v } ∷ w ∷ ws) (w ∷ put_word ws a v))

unfoldable pub put_reg : List ℕ → ℕ → ℕ → List ℕ
put_reg [] k v = []
put_reg (r ∷ rs) zero v = v ∷ rs
put_reg (r ∷ rs) (suc k) v = r ∷ put_reg rs k v

abbrev pub reg : State → ℕ → ℕ
reg s k = slice_index s.regs k

abbrev pub whole : ℕ
whole = 4294967296

unfoldable pub bits : (Bool → Bool → Bool) → ℕ → ℕ → ℕ → ℕ
bits f a b zero = 0
bits f a b (suc n) = pick (f (a % 2 == 1) (b % 2 == 1)) 1 0 + 2 * bits f (a / 2) (b / 2) n

abbrev pub both : Bool → Bool → Bool
both a b = a && b

abbrev pub differ : Bool → Bool → Bool
differ a b = pick a (not b) b

unfoldable pub twice : ℕ → ℕ → ℕ
twice zero a = a
twice (suc n) a = twice n (2 * a % whole)

unfoldable pub halved : ℕ → ℕ → ℕ
halved zero a = a
halved (suc n) a = halved n (a / 2)

-- what it comes to; a quotient by 0 is nothing
unfoldable pub reckoned : ℕ → ℕ → ℕ → List ℕ
reckoned k a b =
    pick (k == 0) ((a + b) % whole ∷ []) (pick (k == 1) ((a + whole - b) % whole ∷ []) (pick (k == 2) (a * b % whole ∷ [])
    (pick (k == 3) (pick (b == 0) [] (a / b ∷ [])) (pick (k == 4) (pick (b == 0) [] (a % b ∷ []))
    (pick (k == 5) (bits both a b 32 ∷ []) (pick (k == 6) (bits or a b 32 ∷ []) (pick (k == 7) (bits differ a b 32 ∷ [])
    (pick (k == 8) (twice (b % 32) a ∷ []) (halved (b % 32) a ∷ [])))))))))

unfoldable pub compared : ℕ → ℕ → ℕ → Bool
compared k a b = pick (k == 0) (a == b) (pick (k == 1) (not (a == b)) (pick (k == 2) (nat_lt a b) (not (nat_lt a b))))

abbrev pub with_status : State → Status → State
with_status s t = record { at = s.at; regs = s.regs; words = s.words; taken = s.taken; out = s.out; status = t }

abbrev pub gone_to : State → ℕ → State
gone_to s k = record { at = k; regs = s.regs; words = s.words; taken = s.taken; out = s.out; status = s.status }

abbrev pub with_reg : State → ℕ → ℕ → State
with_reg s k v = record { at = suc s.at; regs = put_reg s.regs k v; words = s.words; taken = s.taken; out = s.out; status = s.status }

abbrev pub with_word : State → ℕ → ℕ → State
with_word s a v = record { at = suc s.at; regs = s.regs; words = put_word s.words a v; taken = s.taken; out = s.out; status = s.status }

abbrev pub place : State → ℕ → ℕ → ℕ
place s b n = reg s b + n

abbrev pub if_word : ℕ → State → State → State
if_word a s t = pick (nat_lt a 65536) t (with_status s (wrong 2))

unfoldable pub reckon_done : State → ℕ → List ℕ → State
reckon_done s k [] = with_status s (wrong 3)
reckon_done s k (v ∷ vs) = with_reg s k v

unfoldable pub taken_in : State → ℕ → List ℕ → State
taken_in s k [] = with_status s waiting
taken_in s k (v ∷ vs) = record { at = suc s.at; regs = put_reg s.regs k v; words = s.words; taken = suc s.taken; out = s.out; status = s.status }

abbrev pub calls : State → ℕ → State
calls s k =
    let a : ℕ = reg s 15 - 1 in
    pick (nat_le 1 (reg s 15))
    (if_word a s (record { at = k; regs = put_reg s.regs 15 a; words = put_word s.words a (suc s.at); taken = s.taken; out = s.out; status = s.status }))
    (with_status s (wrong 2))

abbrev pub returns : State → State
returns s =
    let a : ℕ = reg s 15 in
    if_word a s (record { at = word_at s.words a; regs = put_reg s.regs 15 (suc a); words = s.words; taken = s.taken; out = s.out; status = s.status })

unfoldable pub does : State → List ℕ → Instr → State
does s ins (load_number k n) = with_reg s k n
does s ins (copy k j) = with_reg s k (reg s j)
does s ins (reckon o k j) = reckon_done s k (reckoned o (reg s k) (reg s j))
does s ins (read k b n) = if_word (place s b n) s (with_reg s k (word_at s.words (place s b n)))
does s ins (write k b n) = if_word (place s b n) s (with_word s (place s b n) (reg s k))
does s ins (jump k) = gone_to s k
does s ins (jump_if c k j n) = gone_to s (pick (compared c (reg s k) (reg s j)) n (suc s.at))
does s ins (call k) = calls s k
does s ins return = returns s
does s ins (take_in k) = taken_in s k (drop s.taken ins)
does s ins (put_out k) = record { at = suc s.at; regs = s.regs; words = s.words; taken = s.taken; out = s.out ++ reg s k ∷ []; status = s.status }
does s ins halt = with_status s halted

abbrev pub instr_at : List Instr → ℕ → List Instr
instr_at is k = take 1 (drop k is)

unfoldable pub one : State → List ℕ → List Instr → State
one s ins [] = with_status s (wrong 1)
one s ins (i ∷ is) = does s ins i

unfoldable pub is_running : Status → Bool
is_running running = true
is_running halted = false
is_running (wrong k) = false
is_running waiting = false

-- a step that can't be done isn't one: the state then says why, and time stands still
abbrev pub step : List Instr → List ℕ → State → State
step is ins s = pick (is_running s.status) (one s ins (instr_at is s.at)) s

unfoldable pub so_many : ℕ → ℕ → List ℕ
so_many zero x = []
so_many (suc n) x = x ∷ so_many n x

abbrev pub at_start : State
at_start = record { at = 0; regs = so_many 16 0; words = []; taken = 0; out = []; status = running }

-- the state at a time, from the beginning on
unfoldable pub state_at : List Instr → List ℕ → ℕ → State
state_at is ins zero = at_start
state_at is ins (suc t) = step is ins (state_at is ins t)

-- is there a step from here?
abbrev pub goes_on : List Instr → List ℕ → ℕ → Bool
goes_on is ins t = is_running (state_at is ins (suc t)).status
