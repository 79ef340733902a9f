-- Registers and words that are written: lists that are set. Assumes nothing.
use Rattle.std.proofs.Common.{◌≡◌, ℕ, zero, suc, ◌<◌, true, false, eqb, List, [], ◌∷◌, length, get_or, set, sym, refl, ap, ◌∙◌, subst, get_or-set_other, get_or-set_same}
use Rattle.std.proofs.lemmas.Bool.{eqb-true, eqb-false}
use Rattle.command.specs.Machine.{pick, Word, word_at, put_word, put_reg}
use Rattle.command.specs.Statements.{WordsRight}
use Rattle.command.proofs.WordsHold.{words_right}
use Rattle.command.proofs.Picks.{by_test}

pub put_set : (rs : List ℕ) (k v : ℕ) → put_reg rs k v ≡ set rs k v
unfolding put_reg
put_set [] k v = refl
put_set (r ∷ rs) zero v = refl
put_set (r ∷ rs) (suc k) v = ap (λ z. r ∷ z) (put_set rs k v)

put_same : (ws : List Word) (p v : ℕ) → word_at (put_word ws p v) p ≡ v
unfolding WordsRight
put_same ws p v = (words_right ws p p v).0

put_other : (ws : List Word) (p v a : ℕ) → eqb p a ≡ false → word_at (put_word ws p v) a ≡ word_at ws a
unfolding WordsRight
put_other ws p v a = (words_right ws p a v).1

pub put_like : (xs ys : List ℕ) (ws : List Word) (p v : ℕ) → p < length xs → ((a : ℕ) → word_at ws a ≡ get_or xs a 0) → ys ≡ set xs p v
    → (a : ℕ) → word_at (put_word ws p v) a ≡ get_or ys a 0
put_like xs ys ws p v h f e a =
    by_test (eqb p a)
    (λ (t : eqb p a ≡ true).
    let q : p ≡ a = eqb-true p a t in
    subst (λ z. word_at (put_word ws p v) z ≡ get_or ys z 0) q (put_same ws p v ∙ sym (ap (λ z. get_or z p 0) e ∙ get_or-set_same xs p v 0 h)))
    (λ (t : eqb p a ≡ false).
    put_other ws p v a t ∙ f a ∙ sym (ap (λ z. get_or z a 0) e ∙ get_or-set_other xs p a v 0 (λ q. eqb-false p a t (sym q))))

pub put_was : (ws : List Word) (p v old : ℕ) → old ≡ word_at ws p → (a : ℕ) → word_at ws a ≡ pick (eqb p a) old (word_at (put_word ws p v) a)
put_was ws p v old e a =
    by_test (eqb p a)
    (λ (t : eqb p a ≡ true). simp t (ap (word_at ws) (sym (eqb-true p a t)) ∙ sym e))
    (λ (t : eqb p a ≡ false). simp t (sym (put_other ws p v a t)))
