-- What is shown of a state: rows, piece by piece. Assumes nothing.
use Rattle.std.proofs.Common.{◌≡◌, ℕ, zero, suc, ◌+◌, ◌<◌, ◌≤◌, List, [], ◌∷◌, ◌++◌, length, get_or, take, drop, Some, None, Option, sym, refl, ap, ◌∙◌, ⊎_elim, append_assoc, append-nil, arith, drop-cons}
use Rattle.std.specs.List.{filter_map, cons_option}
use Rattle.std.specs.Option.{option_to_list}
use Rattle.std.proofs.lemmas.List.{take_more, drop_all}
use Rattle.std.proofs.lemmas.Bool.{cases_lt, lt-ltb, le-ltb}
use Rattle.command.specs.Machine.{flat, eight, Instr, State as Model, state_at}
use Rattle.command.specs.Plain.{words_shown}
use Rattle.trial.specs.declared.moments.Moment.{Moment}
use Rattle.trial.specs.Moments.{Words, first_moment}
use Rattle.trial.specs.Kept.{History}

flat_push : {A B : Type 0} (f : A → List B) (xs : List A) (x : A) → flat f (xs ++ x ∷ []) ≡ flat f xs ++ f x
flat_push f [] x = append-nil (f x)
flat_push f (y ∷ ys) x = ap (λ z. f y ++ z) (flat_push f ys x) ∙ sym (append_assoc (f y) (flat f ys) (f x))

abbrev pub outs_of : Moment → List ℕ
outs_of m = option_to_list m.out

-- what went out is what each step put out
pub outs_at : (is : List Instr) (ins : List ℕ) (past : List Moment) → History is ins past → (t : ℕ) → t < length past
    → flat outs_of (take (t + 1) past) ≡ (state_at is ins t).out
unfolding state_at
outs_at is ins past h zero lt =
    ap (flat outs_of) (take_more past 0 first_moment lt ∙ ap (λ z. z ∷ []) (h.first first_moment))
outs_at is ins past h (suc t) lt =
    let e : suc t ≡ t + 1 = omega arith in
    ap (flat outs_of) (take_more past (suc t) first_moment lt) ∙ flat_push outs_of (take (suc t) past) (get_or past (suc t) first_moment)
    ∙ ap (λ z. flat outs_of (take z past) ++ outs_of (get_or past (suc t) first_moment)) e
    ∙ ap (λ z. z ++ outs_of (get_or past (suc t) first_moment)) (outs_at is ins past h t (omega arith))
    ∙ sym (h.steps t first_moment lt).out

-- the words from a place on
pub shown_words : (ws : List ℕ) (s : Model) → Words ws s → length ws ≡ 65536 → (a n : ℕ) → flat eight (take n (drop a ws)) ≡ words_shown s.words a n
unfolding words_shown
shown_words ws s h l a zero = refl
shown_words ws s h l a (suc n) =
    ⊎_elim
    (λ (lt : a < 65536).
    let there : a < length ws = omega (arith, l, lt) in
    ap (λ z. flat eight (take (suc n) z)) (drop-cons ws a 0 there)
    ∙ (rw (lt-ltb a 65536 lt, h a) (ap (λ z. eight (get_or ws a 0) ++ z) (shown_words ws s h l (suc a) n))))
    (λ (le : 65536 ≤ a).
    let past : length ws ≤ a = omega (arith, l, le) in
    ap (λ z. flat eight (take (suc n) z)) (drop_all a ws past) ∙ (rw (le-ltb a 65536 le) refl))
    (cases_lt a 65536)

-- what went out, in the library's words
pub outs_are : (xs : List Moment) → filter_map (λ m. m.out) xs ≡ flat outs_of xs
outs_are [] = refl
outs_are (m ∷ ms) = one m.out (outs_are ms)
  where
    one : (o : Option ℕ) {xs ys : List ℕ} → xs ≡ ys → cons_option o xs ≡ option_to_list o ++ ys
    one None e = e
    one (Some v) e = ap (λ z. v ∷ z) e
