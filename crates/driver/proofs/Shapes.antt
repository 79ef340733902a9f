-- Which acts are told so: from what a step tells back and the row that it wrote, the act.
use Rattle.std.proofs.Common.{◌≡◌, ℕ, true, List, ◌∷◌, length, get_or, take, drop, sym, refl, ap, ◌∙◌, subst}
use Rattle.std.proofs.lemmas.List.{take_at}
use Rattle.command.specs.Machine.{flat, every, Instr}
use Rattle.command.specs.Plain.{Break, instr_spelled, break_spelled, an_instr, a_break}
use Rattle.command.specs.Reader.{got, so_many, instr, break}
use Rattle.command.proofs.Readers.{so_many_forth}
use Rattle.command.proofs.Spellings.{exact_instr, exact_break}
use Rattle.target.specs.Run.{Act, starts, feeds, goes, keeps, takes_up, looks_regs, looks_words, looks_outs, looks_where, shows, done, refused}
use Rattle.machine.specs.Entry.{on_row, ActTold, refusal_number}
use Rattle.machine.specs.declared.acts.Look.{Look}
use Rattle.machine.specs.declared.acts.Look.TheVariants.{Registers, Words, Outs, Place}
use Rattle.machine.specs.declared.acts.Told.{Told}
use Rattle.machine.specs.declared.acts.Told.TheVariants.{Starts, Feeds, Goes, Keeps, TakesUp, Looks, Shows, Done, No}

-- what is looked at
abbrev pub looking : Look → (row : List ℕ) → Act
looking Registers row = looks_regs
looking Words row = looks_words (get_or row 0 0) (get_or row 1 0)
looking Outs row = looks_outs (get_or row 0 0) (get_or row 1 0)
looking Place row = looks_where

abbrev pub Shape : Told → List ℕ → Act → Type 0
Shape (Starts n) row a = (is : List Instr) × (a ≡ starts is) × (length is ≡ n) × ((o : List ℕ) × (row ≡ on_row (flat instr_spelled is) o))
Shape (Feeds n) row a = (vs : List ℕ) × (a ≡ feeds vs) × (length vs ≡ n) × (take n row ≡ vs)
Shape (Goes n) row a = (bs : List Break) × (a ≡ goes n bs) × ((o : List ℕ) × (row ≡ on_row (length bs ∷ flat break_spelled bs) o))
Shape (Keeps k) row a = a ≡ keeps k
Shape (TakesUp k) row a = a ≡ takes_up k
Shape (Looks k) row a = a ≡ looking k row
Shape (Shows n) row a = (s : List ℕ) × (a ≡ shows s) × (length s ≡ n) × (take n row ≡ s)
Shape Done row a = a ≡ done
Shape (No why) row a = a ≡ refused (refusal_number why)

front : (vs b row : List ℕ) → row ≡ on_row vs b → take (length vs) row ≡ vs
front vs b row e = ap (take (length vs)) e ∙ take_at vs (drop (length vs) b) (length vs) refl

pub shape : (a : Act) (r : Told) (b row : List ℕ) → ActTold a r b row → Shape r row a
shape (starts is) r b row h = subst (λ x. Shape x row (starts is)) (sym h.0) (is, refl, refl, (b, h.1))
shape (feeds vs) r b row h = subst (λ x. Shape x row (feeds vs)) (sym h.0) (vs, refl, refl, front vs b row h.1)
shape (goes n bs) r b row h = subst (λ x. Shape x row (goes n bs)) (sym h.0) (bs, refl, (b, h.1))
shape (keeps k) r b row h = subst (λ x. Shape x row (keeps k)) (sym h.0) refl
shape (takes_up k) r b row h = subst (λ x. Shape x row (takes_up k)) (sym h.0) refl
shape looks_regs r b row h = subst (λ x. Shape x row looks_regs) (sym h.0) refl
shape (looks_words f n) r b row h = subst (λ x. Shape x row (looks_words f n)) (sym h.0) (sym (ap (λ o. looks_words (get_or o 0 0) (get_or o 1 0)) h.1))
shape (looks_outs f n) r b row h = subst (λ x. Shape x row (looks_outs f n)) (sym h.0) (sym (ap (λ o. looks_outs (get_or o 0 0) (get_or o 1 0)) h.1))
shape looks_where r b row h = subst (λ x. Shape x row looks_where) (sym h.0) refl
shape (shows s) r b row h = subst (λ x. Shape x row (shows s)) (sym h.0) (s, refl, refl, front s b row h.1)
shape done r b row h = subst (λ x. Shape x row done) (sym h.0) refl
shape (refused k) r b row ((why, e, q), h) = subst (λ x. Shape x row (refused k)) (sym q) (ap refused (sym e))

-- what stands in such a row is read back
pub program_back : (is : List Instr) (n : ℕ) (o row : List ℕ) → every an_instr is ≡ true → length is ≡ n → row ≡ on_row (flat instr_spelled is) o →
    so_many instr n row ≡ got is (drop (length (flat instr_spelled is)) o)
program_back is n o row h l e = ap (λ k. so_many instr k row) (sym l) ∙ (ap (so_many instr (length is)) e ∙ so_many_forth instr_spelled an_instr exact_instr is _ h)

pub breaks_back : (bs : List Break) (o row : List ℕ) → every a_break bs ≡ true → row ≡ on_row (length bs ∷ flat break_spelled bs) o →
    so_many break (get_or row 0 0) (drop 1 row) ≡ got bs (drop (length (length bs ∷ flat break_spelled bs)) o)
breaks_back bs o row h e = ap (λ x. so_many break (get_or x 0 0) (drop 1 x)) e ∙ so_many_forth break_spelled a_break exact_break bs _ h

pub breaks_count : (bs : List Break) (o row : List ℕ) → row ≡ on_row (length bs ∷ flat break_spelled bs) o → get_or row 0 0 ≡ length bs
breaks_count bs o row e = ap (λ x. get_or x 0 0) e
