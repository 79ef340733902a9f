-- The number that a word writes: below a limit, it is up to the number before the limit. Assumes nothing.
use Rattle.std.proofs.Common.{◌≡◌, ℕ, suc, ◌+◌, ◌-◌, ◌*◌, ◌<◌, ◌≤◌, true, false, eqb, leb, ltb, List, [], ◌∷◌, length, Some, None, Option, sym, refl, ap, ◌∙◌, arith, ⊎_elim, eqb-true}
use Rattle.std.proofs.lemmas.Bool.{cases_Bool}
use Rattle.std.proofs.lemmas.Bool.Decides.{nat_tests}
use Rattle.scan.specs.Numbers.{onward, digit as digit_in, put_behind, longer, digits, number}
use Rattle.command.specs.Machine.{pick}
use Rattle.assembler.specs.Words.{value_on, digit_of, number_below}

digit_same : (base b : ℕ) → base ≤ 16 → digit_in base b ≡ pick (ltb (digit_of b) base) (Some (digit_of b)) None
digit_same base b h = grind (arith, nat_tests)

up_to : (n most : ℕ) → leb n most ≡ ltb n (suc most)
up_to n most = grind (arith, nat_tests)

module _ (base most : ℕ) (h : base ≤ 16) where
  pub on_same : (n : ℕ) (bs : List ℕ) → digits base most n bs ≡ value_on base (suc most) n bs
  unfolding value_on
  on_same n [] = refl
  on_same n (b ∷ bs) =
      let m = n * base + digit_of b in
      ap (λ o. onward (onward o (λ d. put_behind n d base most)) (λ k. digits base most k bs)) (digit_same base b h)
      ∙ ⊎_elim
      (λ (e : ltb (digit_of b) base ≡ true). rw e
      (⊎_elim (λ (f : ltb m (suc most) ≡ true). rw (up_to m most ∙ f, f) (on_same m bs)) (λ (f : ltb m (suc most) ≡ false). rw (up_to m most ∙ f, f) refl) (cases_Bool (ltb m (suc most)))))
      (λ (e : ltb (digit_of b) base ≡ false). rw e refl) (cases_Bool (ltb (digit_of b) base))

no_digit : (most : ℕ) (o : Option ℕ) → onward o (λ n. digits 10 most n (120 ∷ [])) ≡ None
no_digit most None = refl
no_digit most (Some n) = refl

no_value : (most a b : ℕ) → b ≡ 120 → value_on 10 (suc most) 0 (a ∷ b ∷ []) ≡ None
no_value most a b e =
    sym (on_same 10 most (omega arith) 0 (a ∷ b ∷ []))
    ∙ ap (λ c. digits 10 most 0 (a ∷ c ∷ [])) e ∙ no_digit most (longer 10 most 0 a)

long : (a b c : ℕ) (cs : List ℕ) → ltb 2 (length (a ∷ b ∷ c ∷ cs)) ≡ true
long a b c cs = grind (arith, nat_tests)

some : (c : ℕ) (cs : List ℕ) → eqb (length (c ∷ cs)) 0 ≡ false
some c cs = grind (arith, nat_tests)

same_suc : (most : ℕ) (w : List ℕ) → number most w ≡ number_below (suc most) w
same_suc most [] = refl
same_suc most (a ∷ []) =
    on_same 10 most (omega arith) 0 (a ∷ [])
    ∙ ⊎_elim (λ (e : eqb a 48 ≡ true). rw e refl) (λ (e : eqb a 48 ≡ false). rw e refl) (cases_Bool (eqb a 48))
same_suc most (a ∷ b ∷ []) =
    on_same 10 most (omega arith) 0 (a ∷ b ∷ [])
    ∙ ⊎_elim
    (λ (e : eqb a 48 ≡ true). ⊎_elim (λ (f : eqb b 120 ≡ true). rw (e, f) (no_value most a b (eqb-true b 120 f))) (λ (f : eqb b 120 ≡ false). rw (e, f) refl) (cases_Bool (eqb b 120)))
    (λ (e : eqb a 48 ≡ false). rw e refl) (cases_Bool (eqb a 48))
same_suc most (a ∷ b ∷ c ∷ cs) =
    let l = long a b c cs in
    let s = some c cs in
    let t = some a (b ∷ c ∷ cs) in
    ⊎_elim
    (λ (e : eqb a 48 ≡ true). ⊎_elim (λ (f : eqb b 120 ≡ true). rw (l, e, f, s) (on_same 16 most (omega arith) 0 (c ∷ cs))) (λ (f : eqb b 120 ≡ false). rw (l, e, f, t) (on_same 10 most (omega arith) 0 (a ∷ b ∷ c ∷ cs))) (cases_Bool (eqb b 120)))
    (λ (e : eqb a 48 ≡ false). rw (l, e, t) (on_same 10 most (omega arith) 0 (a ∷ b ∷ c ∷ cs))) (cases_Bool (eqb a 48))

pub number_same : (limit : ℕ) (w : List ℕ) → 0 < limit → number (limit - 1) w ≡ number_below limit w
number_same limit w l =
    let m = limit - 1 in
    let e : suc m ≡ limit = omega arith in
    same_suc m w ∙ ap (λ k. number_below k w) e
