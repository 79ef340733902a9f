-- Reading so many things in a loop: what is left to read, behind what was read.
use Rattle.std.proofs.Common.{◌≡◌, ℕ, zero, suc, ◌+◌, ◌<◌, List, [], ◌∷◌, ◌++◌, length, take, set, sym, refl, ap, ◌∙◌, subst, append_assoc, append-nil, arith}
use Rattle.std.proofs.lemmas.List.{take_more_set}
use Rattle.command.specs.Machine.{each}
use Rattle.command.specs.Told.{listed}
use Rattle.command.specs.Reader.{Got, nothing, got, Reader, bind, as_a, so_many, counted, number, up_to}

-- what was put into another form was read
module _ {A B : Type 0} (f : A → B) where
  pub as_got : (g : Got A) {b : B} {u : List ℕ} → bind g (λ a v. got (f a) v) ≡ got b u → (a : A) × (g ≡ got a u) × (f a ≡ b)
  as_got nothing {b} {u} e = absurd (let z : ◌≡◌ {A = ℕ} 0 1 = cc in omega arith)
  as_got (got a v) {b} {u} e = (a, cc, cc)

  pub as_nothing : (g : Got A) → bind g (λ a v. got (f a) v) ≡ nothing → g ≡ nothing
  as_nothing nothing e = refl
  as_nothing (got a v) e = absurd (let z : ◌≡◌ {A = ℕ} 0 1 = cc in omega arith)

module _ {A : Type 0} (r : Reader A) (m : ℕ) (t₀ : List ℕ) where
  -- n of m things are left to read from t, behind those that are done
  abbrev pub Left : ℕ → List A → List ℕ → Type 0
  Left n done t = so_many r m t₀ ≡ as_a (λ xs. done ++ xs) (so_many r n) t

  pub left_start : Left m [] t₀
  left_start = go (so_many r m t₀)
    where
      go : (g : Got (List A)) → g ≡ bind g (λ xs u. got xs u)
      go nothing = refl
      go (got xs u) = refl

  pub left_more : (k n : ℕ) (done : List A) (t : List ℕ) {a : A} {u : List ℕ} → k ≡ suc n → Left k done t → r t ≡ got a u → Left n (done ++ a ∷ []) u
  unfolding so_many
  left_more k n done t {a} {u} z h e =
      h ∙ (ap (λ j. as_a (λ xs. done ++ xs) (so_many r j) t) z
      ∙ (ap (λ g. bind (bind g (λ a u. bind (so_many r n u) (λ xs v. got (a ∷ xs) v))) (λ xs u. got (done ++ xs) u)) e ∙ go (so_many r n u)))
    where
      go : (g : Got (List A)) → bind (bind g (λ xs v. got (a ∷ xs) v)) (λ xs u. got (done ++ xs) u) ≡ bind g (λ xs u. got ((done ++ a ∷ []) ++ xs) u)
      go nothing = refl
      go (got xs v) = ap (λ l. got l v) (sym (append_assoc done (a ∷ []) xs))

  pub left_none : (k n : ℕ) (done : List A) (t : List ℕ) → k ≡ suc n → Left k done t → r t ≡ nothing → so_many r m t₀ ≡ nothing
  unfolding so_many
  left_none k n done t z h e =
      h ∙ (ap (λ j. as_a (λ xs. done ++ xs) (so_many r j) t) z
      ∙ ap (λ g. bind (bind g (λ a u. bind (so_many r n u) (λ xs v. got (a ∷ xs) v))) (λ xs u. got (done ++ xs) u)) e)

  pub left_end : (k : ℕ) (done : List A) (t : List ℕ) → k ≡ 0 → Left k done t → so_many r m t₀ ≡ got done t
  unfolding so_many
  left_end k done t z h = h ∙ (ap (λ j. as_a (λ xs. done ++ xs) (so_many r j) t) z ∙ ap (λ l. got l t) (append-nil done))

-- what was read is what is listed
pub got_listed : {A : Type 0} {g : Got (List A)} {xs : List A} {u : List ℕ} → g ≡ got xs u → g ≡ got (listed g) u
got_listed {g} {u} e = e ∙ sym (ap (λ x. got (listed x) u) e)

-- as many as were asked for
abbrev Long : {A : Type 0} → ℕ → Got (List A) → Type 0
Long n nothing = Unit {0}
Long n (got xs u) = length xs ≡ n

long_more : {A : Type 0} (n : ℕ) (a : A) (g : Got (List A)) → Long n g → Long (suc n) (bind g (λ xs v. got (a ∷ xs) v))
long_more n a nothing h = tt
long_more n a (got xs u) h = ap suc h

module _ {A : Type 0} (r : Reader A) where
  long_next : (n : ℕ) (g : Got A) → ((u : List ℕ) → Long n (so_many r n u)) → Long (suc n) (bind g (λ a u. bind (so_many r n u) (λ xs v. got (a ∷ xs) v)))
  long_next n nothing again = tt
  long_next n (got a u) again = long_more n a (so_many r n u) (again u)

  long : (n : ℕ) (t : List ℕ) → Long n (so_many r n t)
  unfolding so_many
  long zero t = refl
  long (suc n) t = long_next n (r t) (long n)

  pub so_many_length : (n : ℕ) (t : List ℕ) {xs : List A} {u : List ℕ} → so_many r n t ≡ got xs u → length xs ≡ n
  so_many_length n t e = subst (Long n) e (long n t)

-- at most one thing, behind a count that is known
module _ {A : Type 0} (r : Reader A) (max : ℕ) (t : List ℕ) where
  pub counted_at : {n : ℕ} {u : List ℕ} → number (up_to max) t ≡ got n u → counted max r t ≡ so_many r n u
  counted_at e = ap (λ g. bind g (λ n u. so_many r n u)) e

  pub counted_zero : {n : ℕ} {u : List ℕ} → number (up_to max) t ≡ got n u → n ≡ 0 → counted max r t ≡ got [] u
  unfolding so_many
  counted_zero {n} {u} e z = counted_at e ∙ ap (λ k. so_many r k u) z

  pub counted_one : {n : ℕ} {u : List ℕ} (v : List ℕ) {a : A} → number (up_to max) t ≡ got n u → n ≡ 1 → r u ≡ got a v → counted max r t ≡ got (a ∷ []) v
  unfolding so_many
  counted_one {n} {u} v e z h = counted_at e ∙ (ap (λ k. so_many r k u) z ∙ ap (λ g. bind g (λ a u. got (a ∷ []) u)) h)

  pub counted_one_none : {n : ℕ} {u : List ℕ} → number (up_to max) t ≡ got n u → n ≡ 1 → r u ≡ nothing → counted max r t ≡ nothing
  unfolding so_many
  counted_one_none {n} {u} e z h = counted_at e ∙ (ap (λ k. so_many r k u) z ∙ ap (λ g. bind g (λ a u. got (a ∷ []) u)) h)

pub each_append : {A B : Type 0} (f : A → B) (xs ys : List A) → each f (xs ++ ys) ≡ each f xs ++ each f ys
each_append f [] ys = refl
each_append f (x ∷ xs) ys = ap (λ l. f x ∷ l) (each_append f xs ys)

-- one more in its place
pub each_set : {A B : Type 0} (f : A → B) (i : ℕ) (xs : List A) (x : A) → i < length xs → each f (take (i + 1) (set xs i x)) ≡ each f (take i xs) ++ f x ∷ []
each_set f i xs x h = ap (each f) (take_more_set xs i x h) ∙ each_append f (take i xs) (x ∷ [])

-- a counted list is as long as its count
pub counted_length : {A : Type 0} (r : Reader A) (max : ℕ) (t : List ℕ) {n : ℕ} {u : List ℕ} → number (up_to max) t ≡ got n u → {xs : List A} (v : List ℕ) → so_many r n u ≡ got xs v
    → n ≡ length (listed (counted max r t))
counted_length r max t {n} {u} e v h = sym (so_many_length r n u (sym (counted_at r max t e) ∙ got_listed (counted_at r max t e ∙ h)))
