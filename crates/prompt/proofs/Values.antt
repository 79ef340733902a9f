-- A loop over numbers to the end of the line: the end, a mistake, one more.
use Rattle.std.proofs.Common.{◌≡◌, ℕ, zero, suc, ◌-◌, ◌<◌, true, false, cond, List, [], ◌∷◌, ◌++◌, ap, ◌∙◌, arith}
use Rattle.prompt.specs.Words.{is_over}
use Rattle.prompt.specs.declared.mistakes.Expected.{Expected}
use Rattle.prompt.specs.declared.mistakes.Expected.TheVariants.{FewerNumbers}
use Rattle.prompt.specs.Requests.{Got, got, slip, bind, a_value, values}

-- what is read while numbers are left
abbrev rest_of : ℕ → List ℕ → Got ℕ → Got (List ℕ)
rest_of n done g = bind g (λ v u. values n (done ++ v ∷ []) u)

pub values_over : (n : ℕ) (done t : List ℕ) → is_over t ≡ true → values n done t ≡ got done t
unfolding values
values_over zero done t o = ap (λ b. cond b (got done t) (slip t FewerNumbers)) o
values_over (suc n) done t o = ap (λ b. cond b (got done t) (rest_of n done (a_value (suc n) t))) o

pub values_slip : (n : ℕ) (done t : List ℕ) {u : List ℕ} {e : Expected} → is_over t ≡ false → a_value n t ≡ slip u e → values n done t ≡ slip u e
unfolding values
values_slip zero done t o h = ap (λ b. cond b (got done t) (slip t FewerNumbers)) o ∙ ap (λ (g : Got ℕ). bind g (λ v w. got done w)) h
values_slip (suc n) done t o h = ap (λ b. cond b (got done t) (rest_of n done (a_value (suc n) t))) o ∙ ap (rest_of n done) h

pub values_more : (n : ℕ) (done t : List ℕ) {v : ℕ} {u : List ℕ} → 0 < n → is_over t ≡ false → a_value n t ≡ got v u → values n done t ≡ values (n - 1) (done ++ v ∷ []) u
unfolding values
values_more zero done t l o h = absurd (omega arith)
values_more (suc n) done t {v} {u} l o h =
    let e : n ≡ suc n - 1 = omega arith in
    ap (λ b. cond b (got done t) (rest_of n done (a_value (suc n) t))) o ∙ (ap (rest_of n done) h ∙ ap (λ k. values k (done ++ v ∷ []) u) e)
