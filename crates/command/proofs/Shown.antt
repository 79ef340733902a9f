-- Of words no more are shown than there are. Assumes nothing.
use Rattle.std.proofs.Common.{◌≡◌, ℕ, zero, suc, ◌-◌, ◌≤◌, ltb, List, [], ◌++◌, refl, ap, arith}
use Rattle.std.proofs.lemmas.Bool.{lt-ltb, le-ltb, ltb-false}
use Rattle.command.specs.Machine.{eight, smaller, Word, word_at}
use Rattle.command.specs.Plain.{words_shown}
use Rattle.command.proofs.Picks.{by_test}

shown_none : (ws : List Word) (a n : ℕ) → 65536 ≤ a → words_shown ws a n ≡ []
unfolding words_shown
shown_none ws a zero h = refl
shown_none ws a (suc n) h = rw (le-ltb a 65536 h)

past_end : (ws : List Word) (a n m : ℕ) → m ≡ 65536 - a → m ≤ n → words_shown ws a n ≡ words_shown ws a m
unfolding words_shown
past_end ws a n zero e h = shown_none ws a n (omega arith)
past_end ws a zero (suc m) e h = absurd (omega arith)
past_end ws a (suc n) (suc m) e h =
    rw (lt-ltb a 65536 (omega arith)) (ap (λ (r : List ℕ). eight (word_at ws a) ++ r) (past_end ws (suc a) n m (omega arith) (omega arith)))

-- no more are shown than there are
pub shown_cut : (ws : List Word) (a n : ℕ) → words_shown ws a n ≡ words_shown ws a (smaller n (65536 - a))
shown_cut ws a n = by_test (ltb n (65536 - a)) (λ e. rw e) (λ e. rw e (past_end ws a n (65536 - a) refl (ltb-false n (65536 - a) e)))
