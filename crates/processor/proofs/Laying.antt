-- What goes out, laid over the log, one number more. Assumes nothing.
use Rattle.std.proofs.Common.{◌≡◌, ℕ, ◌+◌, ◌-◌, ◌<◌, ◌≤◌, List, [], ◌∷◌, ◌++◌, length, drop, set, sym, ap, ◌∙◌, arith}
use Rattle.std.proofs.lemmas.List.{append_assoc, append-nil, length-append, length-drop, length_push, drop_more, drop_all, set_at}
use Rattle.processor.specs.Like.{laid}

length_laid : (out base : List ℕ) → length (laid out base) ≡ length out + (length base - length out)
length_laid out base = length-append out _ ∙ ap (λ n. length out + n) (length-drop (length out) base)

more : (out base : List ℕ) (v : ℕ) → laid (out ++ v ∷ []) base ≡ out ++ v ∷ drop (length out + 1) base
more out base v = append_assoc out (v ∷ []) _ ∙ ap (λ n. out ++ v ∷ drop n base) (length_push out v)

pub laid_set : (out base xs : List ℕ) (k v : ℕ) → xs ≡ laid out base → length out ≡ k → k < length xs → set xs k v ≡ laid (out ++ v ∷ []) base
laid_set out base xs k v e f h =
    let n = length_laid out base in
    let g = ap length e in
    let there : length out < length base = omega arith in
    ap (λ z. set z k v) (e ∙ ap (λ z. out ++ z) (drop_more base (length out) 0 there)) ∙ set_at out _ _ v k f ∙ sym (more out base v)

pub laid_push : (out base xs : List ℕ) (k v : ℕ) → xs ≡ laid out base → length out ≡ k → length xs ≤ k → xs ++ v ∷ [] ≡ laid (out ++ v ∷ []) base
laid_push out base xs k v e f h =
    let n = length_laid out base in
    let g = ap length e in
    let none : length base ≤ length out = omega arith in
    let past : length base ≤ length out + 1 = omega arith in
    ap (λ z. z ++ v ∷ []) (e ∙ ap (λ z. out ++ z) (drop_all _ _ none) ∙ append-nil out)
    ∙ ap (λ z. out ++ v ∷ z) (sym (drop_all _ _ past)) ∙ sym (more out base v)
