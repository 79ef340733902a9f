-- The longest front of a text, byte by byte. Assumes nothing.
use Rattle.std.proofs.Common.{◌≡◌, ℕ, zero, suc, ◌+◌, ◌-◌, ◌<◌, ◌≤◌, Bool, true, false, eqb, List, [], ◌∷◌, ◌++◌, length, get_or, take, drop, Some, None, unwrap_or, sym, refl, ap, ◌∙◌, ⊎_elim, arith}
use Rattle.std.proofs.lemmas.List.{take_more, take_rest}
use Rattle.std.proofs.lemmas.Bool.{eq-eqb, eqb-true, cases_Bool, and_parts}
use Rattle.std.proofs.lemmas.Bool.Decides.{nat_tests}
use Rattle.command.specs.Machine.{pick, each}
use Rattle.assembler.specs.Words.{front, past, behind, in_name, in_line, after_line, a_name, letter, printable}

pub front_on : (p : ℕ → Bool) (b : ℕ) (bs : List ℕ) → p b ≡ true → front p (b ∷ bs) ≡ b ∷ front p bs
unfolding front
front_on p b bs e = rw e

pub front_off : (p : ℕ → Bool) (b : ℕ) (bs : List ℕ) → p b ≡ false → front p (b ∷ bs) ≡ []
unfolding front
front_off p b bs e = rw e

pub past_on : (p : ℕ → Bool) (b : ℕ) (bs : List ℕ) → p b ≡ true → past p (b ∷ bs) ≡ past p bs
unfolding past
past_on p b bs e = rw e

pub past_off : (p : ℕ → Bool) (b : ℕ) (bs : List ℕ) → p b ≡ false → past p (b ∷ bs) ≡ b ∷ bs
unfolding past
past_off p b bs e = rw e

pub past_shorter : (p : ℕ → Bool) (t : List ℕ) → length (past p t) ≤ length t
unfolding past
past_shorter p [] = omega arith
past_shorter p (b ∷ bs) = let h = past_shorter p bs in elim (p b) as (λ v. length (pick v (past p bs) (b ∷ bs)) ≤ suc (length bs)) [ true ↦ omega arith | false ↦ omega arith ]

pub behind_first : (s : ℕ) (t : List ℕ) → 0 < length t → get_or t 0 0 ≡ s → behind s t ≡ Some (take (length t - 1) (drop 1 t))
behind_first s [] h e = absurd (omega arith)
behind_first s (b ∷ bs) h e = rw (eq-eqb b s e) (ap Some (sym (take_rest (b ∷ bs) 1)))

behind_le : (s : ℕ) (t : List ℕ) → length (unwrap_or (behind s t) t) ≤ length t
behind_le s [] = omega arith
behind_le s (b ∷ bs) = elim (eqb b s) as (λ v. length (unwrap_or (pick v (Some bs) None) (b ∷ bs)) ≤ suc (length bs)) [ true ↦ omega arith | false ↦ omega arith ]

after_le : (t : List ℕ) → length (after_line t) ≤ length t
after_le t = let h = behind_le 10 (past in_line t) in let k = past_shorter in_line t in omega arith

pub after_less : (t : List ℕ) → 0 < length t → length (after_line t) < length t
after_less [] h = absurd (omega arith)
after_less (b ∷ bs) h =
    let k = after_le bs in
    ⊎_elim (λ (e : eqb b 10 ≡ true). let f = past_off in_line b bs (rw e) in rw f (simp e (omega arith)))
    (λ (e : eqb b 10 ≡ false). let f = past_on in_line b bs (rw e) in rw f (omega arith)) (cases_Bool (eqb b 10))

-- where nothing is past a front, each byte is of it
past_all : (p : ℕ → Bool) (t : List ℕ) → length (past p t) ≡ 0 → (i : ℕ) → i < length t → p (get_or t i 0) ≡ true
unfolding past
past_all p [] h i l = absurd (omega arith)
past_all p (b ∷ bs) h zero l = ⊎_elim (λ (e : p b ≡ true). e) (λ (e : p b ≡ false). absurd (omega (arith, simp e at h))) (cases_Bool (p b))
past_all p (b ∷ bs) h (suc i) l =
    ⊎_elim (λ (e : p b ≡ true). past_all p bs (simp e at h) i (omega arith)) (λ (e : p b ≡ false). absurd (omega (arith, simp e at h))) (cases_Bool (p b))

-- a name is shown as it is
same_each : (w : List ℕ) → ((i : ℕ) → i < length w → printable (get_or w i 0) ≡ get_or w i 0) → each printable w ≡ w
same_each [] h = refl
same_each (b ∷ bs) h = cons (h 0 (omega arith)) (same_each bs (λ i l. h (suc i) (omega arith)))
  where
    cons : {b c : ℕ} {bs cs : List ℕ} → b ≡ c → bs ≡ cs → b ∷ bs ≡ c ∷ cs
    cons p q i = p i ∷ q i

name_byte : (b : ℕ) → in_name b ≡ true → printable b ≡ b
name_byte b e = grind (arith, nat_tests)

pub name_shown : (w : List ℕ) → a_name w ≡ true → each printable w ≡ w
name_shown w h =
    let a = and_parts (letter (get_or w 0 0)) (eqb (length (past in_name w)) 0) h in
    same_each w (λ i l. name_byte (get_or w i 0) (past_all in_name w (eqb-true _ _ a.1) i l))

pub each_push : {A B : Type 0} (f : A → B) (xs : List A) (y : A) → each f (xs ++ y ∷ []) ≡ each f xs ++ f y ∷ []
each_push f [] y = refl
each_push f (x ∷ xs) y = ap (λ u. f x ∷ u) (each_push f xs y)

pub each_more : (f : ℕ → ℕ) (t : List ℕ) (i : ℕ) → i < length t → each f (take (i + 1) t) ≡ each f (take i t) ++ f (get_or t i 0) ∷ []
each_more f t i h = ap (each f) (take_more t i 0 h) ∙ each_push f (take i t) (get_or t i 0)
