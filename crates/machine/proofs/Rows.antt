-- Laws of rows: what is written behind what was written, and the bytes of numbers.
use Rattle.std.proofs.Common.{◌≡◌, ℕ, zero, suc, ◌+◌, ◌*◌, ◌/◌, ◌%◌, ◌<◌, ◌≤◌, List, [], ◌∷◌, ◌++◌, length, get_or, take, drop, sym, refl, ap, ◌∙◌, append_assoc, arith, length-append}
use Rattle.std.proofs.lemmas.List.{length-take-le, take_at, drop_at, drop-drop, take_more, append-nil, take_all}
use Rattle.command.specs.Machine.{eight, in_bytes, flat}
use Rattle.target.specs.Run.{shows}
use Rattle.machine.specs.Entry.{on_row, ActTold}
use Rattle.machine.specs.declared.acts.Told.TheVariants.{Shows}

-- a row with numbers in place of as many from a place on
abbrev put_at : List ℕ → ℕ → List ℕ → List ℕ
put_at out at bs = take at out ++ on_row bs (drop at out)

-- more numbers behind those that were written at the front
pub row_behind : (out xs ys : List ℕ) (n : ℕ) → length xs ≡ n → put_at (on_row xs out) n ys ≡ on_row (xs ++ ys) out
row_behind out xs ys n e =
    let rest : List ℕ = drop (length xs) out in
    let one : take n (xs ++ rest) ≡ xs = take_at xs rest n e in
    let two : drop n (xs ++ rest) ≡ rest = drop_at xs rest n e in
    let three : drop (length ys) rest ≡ drop (length (xs ++ ys)) out = drop-drop (length ys) (length xs) out ∙ sym (ap (λ k. drop k out) (length-append xs ys)) in
    rw (one, two, three) (sym (append_assoc xs ys (drop (length (xs ++ ys)) out)))

-- the bytes of numbers
length_in_bytes : (k n : ℕ) (bs : List ℕ) → length (in_bytes k n bs) ≡ k + length bs
unfolding in_bytes
length_in_bytes zero n bs = omega arith
length_in_bytes (suc k) n bs = omega (arith, length_in_bytes k (n / 256) (n % 256 ∷ bs))

pub length_eight : (n : ℕ) → length (eight n) ≡ 8
length_eight n = length_in_bytes 8 n []

pub length_eights : (ns : List ℕ) → length (flat eight ns) ≡ 8 * length ns
length_eights [] = refl
length_eights (n ∷ ns) = omega (arith, length-append (eight n) (flat eight ns), length_eight n, length_eights ns)

flat_append : {A B : Type 0} (f : A → List B) (xs ys : List A) → flat f (xs ++ ys) ≡ flat f xs ++ flat f ys
flat_append f [] ys = refl
flat_append f (x ∷ xs) ys = ap (λ r. f x ++ r) (flat_append f xs ys) ∙ sym (append_assoc (f x) (flat f xs) (flat f ys))

eights_more : (ns : List ℕ) (i : ℕ) → i < length ns → flat eight (take (i + 1) ns) ≡ flat eight (take i ns) ++ eight (get_or ns i 0)
eights_more ns i h = ap (flat eight) (take_more ns i 0 h) ∙ flat_append eight (take i ns) (get_or ns i 0 ∷ []) ∙ ap (λ r. flat eight (take i ns) ++ r) (append-nil (eight (get_or ns i 0)))

-- one turn of a loop that writes the bytes of each number
pub show_more : (out ns : List ℕ) (i : ℕ) → i < length ns →
    put_at (on_row (flat eight (take i ns)) out) (8 * i) (eight (get_or ns i 0)) ≡ on_row (flat eight (take (i + 1) ns)) out
show_more out ns i h =
    let e : length (flat eight (take i ns)) ≡ 8 * i = omega (arith, length_eights (take i ns), length-take-le i ns (omega arith)) in
    row_behind out (flat eight (take i ns)) (eight (get_or ns i 0)) (8 * i) e ∙ ap (λ bs. on_row bs out) (sym (eights_more ns i h))

-- its end
pub shown : (out row ns : List ℕ) (i : ℕ) → length ns ≤ i → row ≡ on_row (flat eight (take i ns)) out → ActTold (shows (flat eight ns)) (Shows (8 * length ns)) out row
shown out row ns i h e =
    (ap Shows (sym (length_eights ns)), e ∙ ap (λ xs. on_row (flat eight xs) out) (take_all i ns h))
