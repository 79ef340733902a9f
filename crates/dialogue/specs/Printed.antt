-- What the plain debugger shows for an order, by how it is printed. Assumes nothing: these are definitions.
use Rattle.std.specs.Prelude.{◌≡◌, ℕ, zero, suc, List, [], ◌∷◌, take, drop, nat_lt}
use Rattle.command.specs.Machine.{pick, flat, eight, Word, word_at}
use Rattle.command.specs.Plain.{Plain, Turn, at_time, status_number, turn}
use Rattle.command.specs.Told.{meant}
use Rattle.command.specs.declared.commands.Order.{Order}
use Rattle.dialogue.specs.declared.showing.Showing.{Showing}
use Rattle.dialogue.specs.declared.showing.Showing.TheVariants.{Nothing, Time, Number, Place, Registers, Words, Outs}

-- the words from an address on, as far as there are any
unfoldable pub words_on : List Word → ℕ → ℕ → List ℕ
words_on ws a zero = []
words_on ws a (suc n) = pick (nat_lt a 65536) (word_at ws a ∷ words_on ws (suc a) n) []

abbrev pub One : (shows : List (List ℕ)) → (numbers : List ℕ) → Type 0
One ss ns = ss ≡ flat eight ns ∷ []

-- a turn from one debugger to the next shows no text, or one of these numbers
abbrev pub Prints : Showing → Plain → Turn → Type 0
Prints Nothing w t = t.shows ≡ []
Prints Time w t = One t.shows (t.next.now ∷ [])
Prints Number w t = One t.shows (w.next ∷ [])
Prints Place w t = One t.shows (w.now ∷ (at_time w w.now).at ∷ status_number (at_time w (suc w.now)).status ∷ [])
Prints Registers w t = One t.shows (at_time w w.now).regs
Prints (Words a) w t = (n : ℕ) × One t.shows (words_on (at_time w w.now).words a n)
Prints Outs w t = (a n : ℕ) × One t.shows (take n (drop a (at_time w w.now).out))

-- wherever an order is done
abbrev pub ShownSo : Order → Showing → Type 0
ShownSo o s = (w : Plain) → (turn w (meant o)).reply ≡ 0 → Prints s w (turn w (meant o))
