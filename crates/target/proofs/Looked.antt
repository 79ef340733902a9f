-- What is shown of words, by what can be looked at. Assumes nothing.
use Rattle.std.proofs.Common.{◌≡◌, ℕ, zero, suc, ◌+◌, ◌≤◌, List, ◌++◌, refl, ap, arith}
use Rattle.std.proofs.lemmas.Bool.{lt-ltb}
use Rattle.command.specs.Machine.{flat, eight, word_at}
use Rattle.command.specs.Plain.{words_shown}
use Rattle.target.specs.Run.{Target, words_of}

-- as far as there are words, they are looked at and shown
pub shown_looked : (t : Target) (a n : ℕ) → a + n ≤ 65536 → words_shown t.state.words a n ≡ flat eight (words_of t a n)
unfolding words_shown words_of
shown_looked t a zero h = refl
shown_looked t a (suc n) h = rw (lt-ltb a 65536 (omega arith)) (ap (λ (r : List ℕ). eight (word_at t.state.words a) ++ r) (shown_looked t (suc a) n (omega arith)))
