-- What the whole debugger promises, of any engine: for all that can be said, what the plain debugger says, within the steps granted. Assumes nothing.
use Rattle.std.specs.Prelude.{◌≡◌, ℕ, zero, suc, ◌≤◌, Bool, true, false, ◌⊎◌, List, [], ◌∷◌, length}
use Rattle.command.specs.Plain.{Command, spelled, fits, Plain, turn, may_step}
use Rattle.target.specs.Run.{Engine, said, World, Ran, runs, world, fresh_target, Steady}

abbrev pub Never : Type 0
Never = zero ≡ suc zero

unfoldable pub Said : List ℕ → Command → Type 0
Said text c = (spelled c ≡ text) × (fits c ≡ true)

abbrev pub ran_as : Engine → ℕ → World → List ℕ → Ran
ran_as e n v t = runs n e v (said t) [] 0

-- a command that is known: the plain debugger's turn, within the steps granted
unfoldable pub May : (Command → Bool) → Plain → List ℕ → Ran → Plain → Type 0
May known w text r w₁ =
    ((a : Command) × Said text a × (known a ≡ true)
    × (r.end ≡ (turn w a).reply) × (r.showed ≡ (turn w a).shows) × (w₁ ≡ (turn w a).next) × (r.steps ≤ may_step w a (turn w a)))
    ⊎ (((a : Command) × Said text a × (known a ≡ false) × (r.end ≡ 2) × (r.showed ≡ []) × (r.steps ≡ 0) × (w₁ ≡ w))
    ⊎ (((a : Command) → Said text a → Never) × (r.end ≡ 1) × (r.showed ≡ []) × (r.steps ≡ 0) × (w₁ ≡ w)))

unfoldable pub Right : (Command → Bool) → Engine → World → Plain → List (List ℕ) → Type 0
Right known e v w [] = zero ≡ zero
Right known e v w (t ∷ ts) =
    (n : ℕ) × (w₁ : Plain) × May known w t (ran_as e n v t) w₁ × Right known e (ran_as e n v t).here w₁ ts

abbrev pub first_plain : Plain
first_plain = record { program = []; ins = []; now = 0; breaks = []; next = 1 }

-- THE MAIN PROMISE: for all that can be said, as long as it's at most 2^32 things
unfoldable pub Whole : (Command → Bool) → Engine → Type 0
Whole known e =
    Steady e
    × ((ts : List (List ℕ)) → length ts ≤ 4294967296 → Right known e (world (fresh_target []) e.start) first_plain ts)

-- The same, turn by turn, in as many turns as a driver can count. A program can go on from it one command at a time, and the given promise follows.
abbrev pub most_turns : ℕ
most_turns = 18446744073709551615

-- so many commands more: whatever is said next is answered as promised, within so many turns, and then one fewer
unfoldable pub Holds : ℕ → (Command → Bool) → Engine → World → Plain → Type 0
Holds zero known e v w = zero ≡ zero
Holds (suc left) known e v w =
    (text : List ℕ) → (w₁ : Plain) × May known w text (ran_as e most_turns v text) w₁ × Holds left known e (ran_as e most_turns v text).here w₁

unfoldable pub Holding : (Command → Bool) → Engine → Type 0
Holding known e = Steady e × Holds 4294967296 known e (world (fresh_target []) e.start) first_plain
