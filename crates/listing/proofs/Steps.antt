-- Where a step leads. Assumes nothing.
use Rattle.std.proofs.Common.{ℕ, suc, ◌-◌, Bool, true, false, ltb, leb, List, [], ◌∷◌, drop, refl}
use Rattle.command.specs.Machine.{pick, State, Instr, load_number, copy, reckon, read, write, jump, jump_if, call, return, take_in, put_out, halt, reg, reckoned, compared, reckon_done, taken_in, place, does}
use Rattle.listing.specs.Labels.{name_of}
use Rattle.listing.specs.Statements.{Unlabelled, Leads, stays, goes_on, returns, jumps, calls, Told}

-- by either way of a test
led : (i : Instr) (p : ℕ) (b : Bool) (s t : State) → Leads i p s.at → Leads i p t.at → Leads i p (pick b s t).at
led i p true s t x y = x
led i p false s t x y = y

led_to : (i : Instr) (p : ℕ) (b : Bool) (j k : ℕ) → Leads i p j → Leads i p k → Leads i p (pick b j k)
led_to i p true j k x y = x
led_to i p false j k x y = y

reckon_led : (i : Instr) (s : State) (k : ℕ) (vs : List ℕ) → Leads i s.at (reckon_done s k vs).at
unfolding reckon_done
reckon_led i s k [] = stays refl
reckon_led i s k (v ∷ vs) = goes_on refl

taken_led : (i : Instr) (s : State) (k : ℕ) (vs : List ℕ) → Leads i s.at (taken_in s k vs).at
unfolding taken_in
taken_led i s k [] = stays refl
taken_led i s k (v ∷ vs) = goes_on refl

pub told : Told
unfolding does
told s ins (load_number k n) = goes_on refl
told s ins (copy k j) = goes_on refl
told s ins (reckon o k j) = reckon_led (reckon o k j) s k (reckoned o (reg s k) (reg s j))
told s ins (read k b n) = led (read k b n) s.at (ltb (place s b n) 65536) _ _ (goes_on refl) (stays refl)
told s ins (write k b n) = led (write k b n) s.at (ltb (place s b n) 65536) _ _ (goes_on refl) (stays refl)
told s ins (jump k) = jumps refl
told s ins (jump_if c k j n) = led_to (jump_if c k j n) s.at (compared c (reg s k) (reg s j)) n (suc s.at) (jumps refl) (goes_on refl)
told s ins (call k) = led (call k) s.at (leb 1 (reg s 15)) _ _ (led (call k) s.at (ltb (reg s 15 - 1) 65536) _ _ (calls refl) (stays refl)) (stays refl)
told s ins return = returns refl
told s ins (take_in k) = taken_led (take_in k) s k (drop s.taken ins)
told s ins (put_out k) = goes_on refl
told s ins halt = stays refl

pub unlabelled : Unlabelled
unfolding name_of
unlabelled (load_number k n) = refl
unlabelled (copy k j) = refl
unlabelled (reckon o k j) = refl
unlabelled (read k b n) = refl
unlabelled (write k b n) = refl
unlabelled (jump k) = refl
unlabelled (jump_if c k j n) = refl
unlabelled (call k) = refl
unlabelled return = refl
unlabelled (take_in k) = refl
unlabelled (put_out k) = refl
unlabelled halt = refl
