-- What the plain debugger shows for each order, in numbers. Assumes nothing.
use Rattle.std.proofs.Common.{◌≡◌, ℕ, zero, suc, Bool, true, false, eqb, ltb, leb, List, [], ◌∷◌, ◌++◌, length, refl, ap, arith}
use Rattle.command.specs.Machine.{pick, any, flat, eight, in_bytes, Word, word_at}
use Rattle.command.specs.Plain.{Plain, Turn, turn, no, moved_turn, changer_turn, words_shown, at_time, last_change}
use Rattle.command.specs.declared.breaks.Break.{Break as Stop}
use Rattle.command.specs.declared.commands.Order.TheVariants.{Forward, Back, Run, Rerun, Changer, Break, Drop, Where, Registers, Words, Outs}
use Rattle.command.proofs.Picks.{by_test}
use Rattle.dialogue.specs.declared.showing.Showing.{Showing}
use Rattle.dialogue.specs.declared.showing.Showing.TheVariants.{Nothing, Time, Number, Place, Registers as Sixteen, Words as WordsOn, Outs as Out}
use Rattle.dialogue.specs.Printed.{words_on, Prints, ShownSo}

words_numbers : (ws : List Word) (a n : ℕ) → words_shown ws a n ≡ flat eight (words_on ws a n)
unfolding words_shown words_on
words_numbers ws a zero = refl
words_numbers ws a (suc n) =
    by_test (ltb a 65536) (λ e. rw e (ap (λ (r : List ℕ). eight (word_at ws a) ++ r) (words_numbers ws (suc a) n))) (λ e. rw e)

moves : (w : Plain) (t : ℕ) → Prints Time w (moved_turn w t)
unfolding in_bytes
moves w t = refl

pub forward_so : (n : ℕ) → ShownSo (Forward n) Time
unfolding turn
forward_so n w h = moves w _

pub back_so : (n : ℕ) → ShownSo (Back n) Time
unfolding turn
back_so n w h = moves w _

pub run_so : (n : ℕ) → ShownSo (Run n) Time
unfolding turn
run_so n w h = moves w _

pub rerun_so : (n : ℕ) → ShownSo (Rerun n) Time
unfolding turn
rerun_so n w h = moves w _

changes : (w : Plain) (ts : List ℕ) → (changer_turn w ts).reply ≡ 0 → Prints Time w (changer_turn w ts)
unfolding changer_turn
changes w [] h = absurd (omega (arith, h))
changes w (t ∷ ts) h = moves w t

pub changer_so : (a : ℕ) → ShownSo (Changer a) Time
unfolding turn
changer_so a w h = changes w (last_change w a w.now) h

-- an order that is refused shows nothing
picked : (s : Showing) (w : Plain) (b : Bool) (x y : Turn) → (x.reply ≡ 0 → Prints s w x) → (y.reply ≡ 0 → Prints s w y) → (pick b x y).reply ≡ 0 → Prints s w (pick b x y)
picked s w true x y f g = f
picked s w false x y f g = g

refused : (s : Showing) (w : Plain) (k : ℕ) → suc k ≡ 0 → Prints s w (no (suc k) w)
refused s w k e = absurd (omega (arith, e))

pub break_so : (b : Stop) → ShownSo (Break b) Number
unfolding turn in_bytes
break_so b w = picked Number w (leb 64 (length w.breaks)) (no 7 w) _ (refused Number w 6) (λ e. refl)

pub drop_so : (i : ℕ) → ShownSo (Drop i) Nothing
unfolding turn
drop_so i w = picked Nothing w (any (λ b. eqb b.id i) w.breaks) _ (no 3 w) (λ e. refl) (refused Nothing w 2)

pub where_so : ShownSo Where Place
unfolding turn in_bytes
where_so w h = refl

pub registers_so : ShownSo Registers Sixteen
unfolding turn
registers_so w h = refl

pub words_so : (a n : ℕ) → ShownSo (Words a n) (WordsOn a)
unfolding turn
words_so a n w h = (n, ap (λ (r : List ℕ). r ∷ []) (words_numbers (at_time w w.now).words a n))

pub outs_so : (a n : ℕ) → ShownSo (Outs a n) Out
unfolding turn
outs_so a n w h = (a, n, refl)
