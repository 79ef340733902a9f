-- Words hold what was written last. Assumes nothing.
use Rattle.std.proofs.Common.{◌≡◌, ℕ, false, eqb, List, [], ◌∷◌, arith}
use Rattle.std.proofs.lemmas.Bool.Decides.{nat_tests}
use Rattle.command.specs.Machine.{Word, word_at, put_word}
use Rattle.command.specs.Statements.{WordsRight}

same_at : (ws : List Word) (a v : ℕ) → word_at (put_word ws a v) a ≡ v
unfolding word_at put_word
same_at [] a v = grind (arith, nat_tests)
same_at (w ∷ ws) a v = let h = same_at ws a v in grind (arith, nat_tests)

other_at : (ws : List Word) (a b v : ℕ) → eqb a b ≡ false → word_at (put_word ws a v) b ≡ word_at ws b
unfolding word_at put_word
other_at [] a b v e = simp e
other_at (w ∷ ws) a b v e = let h = other_at ws a b v e in grind (arith, nat_tests)

pub words_right : WordsRight
unfolding WordsRight
words_right ws a b v = (same_at ws a v, other_at ws a b v)
