-- Numbers read back from the bytes that show them. Assumes nothing.
use Rattle.std.proofs.Common.{◌≡◌, ℕ, ◌<◌, true, List, [], ◌∷◌, ◌++◌, length, sym, refl, ap, ◌∙◌, append_assoc, arith}
use Rattle.std.proofs.lemmas.Bool.{and_parts}
use Rattle.command.specs.Machine.{every, flat, eight, in_bytes}
use Rattle.command.specs.Reader.{nothing, got}
use Rattle.command.proofs.Readers.{Exact}
use Rattle.command.proofs.Digits.{exact_up_to}
use Rattle.command.proofs.Every.{every_append}
use Rattle.command.proofs.Texts.{read_so}
use Rattle.dialogue.specs.Spelled.{a_number, one_number, Begins, Spells}

exact : Exact eight a_number one_number
exact = exact_up_to 18446744073709551615 (omega arith)

-- so many numbers were read, and what is left
abbrev pub SoFar : (text numbers rest : List ℕ) → Type 0
SoFar text ns rest = (flat eight ns ++ rest ≡ text) × (every a_number ns ≡ true)

pushed : (ns : List ℕ) (n : ℕ) (rest : List ℕ) → flat eight (ns ++ n ∷ []) ++ rest ≡ flat eight ns ++ (eight n ++ rest)
unfolding in_bytes
pushed [] n rest = refl
pushed (m ∷ ns) n rest = ap (λ (u : List ℕ). eight m ++ u) (pushed ns n rest)

-- one more
pub one_more : (text ns rest : List ℕ) {n : ℕ} {rest₁ : List ℕ} → SoFar text ns rest → one_number rest ≡ got n rest₁ → SoFar text (ns ++ n ∷ []) rest₁
one_more text ns rest {n} {rest₁} h e =
    let r = read_so exact e in
    (pushed ns n rest₁ ∙ (ap (λ (u : List ℕ). flat eight ns ++ u) r.0 ∙ h.0), every_append a_number ns (n ∷ []) h.1 (simp r.1))

longer : (n : ℕ) (rest : List ℕ) → length rest < length (eight n ++ rest)
unfolding in_bytes
longer n rest = omega arith

-- less is left
pub less_left : (rest : List ℕ) {n : ℕ} {rest₁ : List ℕ} → one_number rest ≡ got n rest₁ → length rest₁ < length rest
less_left rest {n} {rest₁} e =
    let r : eight n ++ rest₁ ≡ rest = (read_so exact e).0 in
    let l : length (eight n ++ rest₁) ≡ length rest = ap length r in
    omega (arith, longer n rest₁)

not_none : (n : ℕ) (u : List ℕ) {C : Type 0} → eight n ++ u ≡ [] → C
unfolding in_bytes
not_none n u e = let l : length (eight n ++ u) ≡ 0 = ap length e in absurd (omega (arith, longer n u))

-- what was read is all that there was
same : (ns ms rest : List ℕ) → one_number rest ≡ nothing → every a_number ns ≡ true → every a_number ms ≡ true → flat eight ms ≡ flat eight ns ++ rest → ns ≡ ms
same [] [] rest h j k e = refl
same [] (m ∷ ms) rest h j k e =
    let p = exact.forth m (flat eight ms) (and_parts _ _ k).0 in
    let q : one_number (eight m ++ flat eight ms) ≡ one_number rest = ap one_number e in
    cc
same (n ∷ ns) [] rest h j k e = not_none n (flat eight ns ++ rest) (sym (append_assoc (eight n) (flat eight ns) rest) ∙ sym e)
same (n ∷ ns) (m ∷ ms) rest h j k e =
    let a = and_parts (a_number n) (every a_number ns) j in
    let b = and_parts (a_number m) (every a_number ms) k in
    let p = exact.forth n (flat eight ns ++ rest) a.0 in
    let q = exact.forth m (flat eight ms) b.0 in
    let r : one_number (eight m ++ flat eight ms) ≡ one_number (eight n ++ (flat eight ns ++ rest)) = ap one_number (e ∙ append_assoc (eight n) (flat eight ns) rest) in
    let g : got m (flat eight ms) ≡ got n (flat eight ns ++ rest) = sym q ∙ (r ∙ p) in
    let l : n ≡ m = cc in
    let t : flat eight ms ≡ flat eight ns ++ rest = cc in
    let i : ns ≡ ms = same ns ms rest h a.1 b.1 t in
    cc

pub all_begins : (text ns rest : List ℕ) → SoFar text ns rest → one_number rest ≡ nothing → Begins text ns
all_begins text ns rest h e = (rest, h.0, h.1, e)

pub all_spells : (text ns rest : List ℕ) → SoFar text ns rest → one_number rest ≡ nothing → Spells text ns
all_spells text ns rest h e ms k f = same ns ms rest e h.1 k (f ∙ sym h.0)
