-- Registers and words that are written. Assumes nothing.
use Rattle.std.proofs.Common.{◌≡◌, ℕ, zero, suc, true, false, eqb, List, [], ◌∷◌, set, sym, refl, ap, ◌∙◌}
use Rattle.std.proofs.lemmas.Bool.{eqb-true}
use Rattle.command.specs.Machine.{pick, Word, word_at, put_word, put_reg}
use Rattle.command.specs.Statements.{WordsRight}
use Rattle.command.proofs.WordsHold.{words_right}
use Rattle.command.proofs.Picks.{by_test}

pub put_set : (rs : List ℕ) (k v : ℕ) → put_reg rs k v ≡ set rs k v
unfolding put_reg
put_set [] k v = refl
put_set (r ∷ rs) zero v = refl
put_set (r ∷ rs) (suc k) v = ap (λ z. r ∷ z) (put_set rs k v)

pub put_words : (ws : List Word) (p v a : ℕ) → word_at (put_word ws p v) a ≡ pick (eqb p a) v (word_at ws a)
unfolding WordsRight
put_words ws p v a =
    by_test (eqb p a)
    (λ (t : eqb p a ≡ true). simp t (ap (word_at (put_word ws p v)) (sym (eqb-true p a t)) ∙ (words_right ws p p v).0))
    (λ (t : eqb p a ≡ false). simp t ((words_right ws p a v).1 t))
