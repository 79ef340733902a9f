-- What a processor's methods promise, from what they make of each target. Assumes nothing.
use Rattle.std.proofs.Common.{◌≡◌, ℕ, ◌+◌, ◌<◌, ◌≤◌, Bool, List, [], ◌∷◌, ◌++◌, length, take, drop, refl, ap, add-zero}
use Rattle.std.proofs.lemmas.Bool.{le-leb, lt-leb, lt-ltb, le-ltb}
use Rattle.command.specs.Machine.{Instr, State, step}
use Rattle.command.specs.Plain.{Break, status_number}
pub use Rattle.command.proofs.Writes.{each_length}
use Rattle.target.specs.Run.{came, saw, next, starts, feeds, goes, keeps, takes_up, looks_regs, looks_words, looks_outs, looks_where, Target, Came, world, fresh_target, with_state, keep_in, slot_of, words_of, taken_up, going, one_act}
use Rattle.target.specs.Acts.{Does, Refuses}

-- a target with more to come in
abbrev pub fed_with : Target → List ℕ → Target
fed_with t vs = record { program = t.program; fed = t.fed ++ vs; state = t.state; slots = t.slots }

-- how far a target goes
abbrev pub gone : ℕ → List Break → Target → Came
gone n bs t = going n t.program t.fed bs t.state 0

module _ (before after : Target → Type 0) where
  pub does_starts : (is : List Instr) → length is ≤ 4096 → after (fresh_target is) → Does (starts is) next 0 before after
  unfolding one_act
  does_starts is h a t b = (fresh_target is, a, λ go ss k m. rw (le-leb (length is) 4096 h, add-zero k) refl)

  pub refuses_starts : (is : List Instr) → 4096 < length is → ((t : Target) → before t → after t) → Refuses (starts is) before after
  unfolding one_act
  refuses_starts is h f t b = (f t b, λ go ss k m. rw (lt-leb (length is) 4096 h) refl)

  pub does_feeds : (vs : List ℕ) → ((t : Target) → before t → after (fed_with t vs)) → Does (feeds vs) next 0 before after
  unfolding one_act
  does_feeds vs f t b = (fed_with t vs, f t b, λ go ss k m. rw (add-zero k) refl)

  pub does_goes : (n by : ℕ) (hit : Bool) (why : ℕ) (bs : List Break) → length bs ≤ 64
      → ((t : Target) → before t → after (with_state t (gone n bs t).state) × ((gone n bs t).by ≡ by) × ((gone n bs t).hit ≡ hit) × ((gone n bs t).why ≡ why))
      → Does (goes n bs) (came by hit why) by before after
  unfolding one_act
  does_goes n by hit why bs h f t b =
      let g = f t b in
      (with_state t (gone n bs t).state, g.0, λ go ss k m. rw (le-leb (length bs) 64 h) (λ i. go (world (with_state t (gone n bs t).state) m) (came (g.1 i) (g.2 i) (g.3 i)) ss (k + g.1 i)))

  pub refuses_goes : (n : ℕ) (bs : List Break) → 64 < length bs → ((t : Target) → before t → after t) → Refuses (goes n bs) before after
  unfolding one_act
  refuses_goes n bs h f t b = (f t b, λ go ss k m. rw (lt-leb (length bs) 64 h) refl)

  pub does_keeps : (j : ℕ) → j < 256 → ((t : Target) → before t → after (keep_in t j)) → Does (keeps j) next 0 before after
  unfolding one_act
  does_keeps j h f t b = (keep_in t j, f t b, λ go ss k m. rw (lt-ltb j 256 h, add-zero k) refl)

  pub refuses_keeps : (j : ℕ) → 256 ≤ j → ((t : Target) → before t → after t) → Refuses (keeps j) before after
  unfolding one_act
  refuses_keeps j h f t b = (f t b, λ go ss k m. rw (le-ltb j 256 h) refl)

  pub does_takes : (j : ℕ) → ((t : Target) → before t → (s : State) × (slot_of t.slots j ≡ s ∷ []) × after (with_state t s)) → Does (takes_up j) next 0 before after
  unfolding one_act taken_up
  does_takes j f t b = let g = f t b in (with_state t g.0, g.2, λ go ss k m. rw (g.1, add-zero k) refl)

  pub refuses_takes : (j : ℕ) → ((t : Target) → before t → after t × (slot_of t.slots j ≡ [])) → Refuses (takes_up j) before after
  unfolding one_act taken_up
  refuses_takes j f t b = let g = f t b in (g.0, λ go ss k m. rw g.1 refl)

module _ (like : Target → Type 0) where
  pub does_regs : (vs : List ℕ) → ((t : Target) → like t → t.state.regs ≡ vs) → Does looks_regs (saw vs) 0 like like
  unfolding one_act
  does_regs vs f t b = (t, b, λ go ss k m. rw (add-zero k) (ap (λ z. go (world t m) (saw z) ss k) (f t b)))

  pub does_words : (a n : ℕ) (vs : List ℕ) → n ≤ 4096 → ((t : Target) → like t → words_of t a n ≡ vs) → Does (looks_words a n) (saw vs) 0 like like
  unfolding one_act
  does_words a n vs h f t b = (t, b, λ go ss k m. rw (le-leb n 4096 h, add-zero k) (ap (λ z. go (world t m) (saw z) ss k) (f t b)))

  pub refuses_words : (a n : ℕ) → 4096 < n → Refuses (looks_words a n) like like
  unfolding one_act
  refuses_words a n h t b = (b, λ go ss k m. rw (lt-leb n 4096 h) refl)

  pub does_outs : (a n : ℕ) (vs : List ℕ) → n ≤ 4096 → ((t : Target) → like t → take n (drop a t.state.out) ≡ vs) → Does (looks_outs a n) (saw vs) 0 like like
  unfolding one_act
  does_outs a n vs h f t b = (t, b, λ go ss k m. rw (le-leb n 4096 h, add-zero k) (ap (λ z. go (world t m) (saw z) ss k) (f t b)))

  pub refuses_outs : (a n : ℕ) → 4096 < n → Refuses (looks_outs a n) like like
  unfolding one_act
  refuses_outs a n h t b = (b, λ go ss k m. rw (lt-leb n 4096 h) refl)

  pub does_spot : (at why : ℕ) → ((t : Target) → like t → (t.state.at ≡ at) × (status_number (step t.program t.fed t.state).status ≡ why)) → Does looks_where (saw (at ∷ why ∷ [])) 0 like like
  unfolding one_act
  does_spot at why f t b = let g = f t b in (t, b, λ go ss k m. rw (add-zero k) (λ i. go (world t m) (saw (g.0 i ∷ g.1 i ∷ [])) ss k))
