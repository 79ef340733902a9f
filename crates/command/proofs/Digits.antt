-- Numbers in bytes, the highest first: what is read is what was written.
use Rattle.std.proofs.Common.{◌≡◌, ℕ, zero, suc, ◌+◌, ◌*◌, ◌/◌, ◌%◌, ◌^◌, ◌<◌, ◌≤◌, Bool, true, false, ◌&&◌, ltb, leb, List, [], ◌∷◌, ◌++◌, length, sym, refl, ap, ◌∙◌, append_assoc, mod-lt, mul_assoc, mul_comm, div-lt_iff_lt-mul, add-mul, pow-suc, div-add-mod', arith}
use lib.Arith.{digits_lt}
use Rattle.std.proofs.lemmas.Bool.{ltb-true, leb-true, lt-ltb, and_from, and_parts}
use Rattle.command.specs.Machine.{pick, in_bytes, eight, every, flat}
use Rattle.command.specs.Reader.{Got, nothing, got, Reader, bind, bytes, number, first, below, up_to, so_many, counted}
use Rattle.command.proofs.Readers.{Right, Rights, Exact, bind_at, right_bind, exact_only, so_many_back, so_many_forth}

pub in_bytes_append : (k n : ℕ) (bs u : List ℕ) → in_bytes k n bs ++ u ≡ in_bytes k n (bs ++ u)
unfolding in_bytes
in_bytes_append zero n bs u = refl
in_bytes_append (suc k) n bs u = in_bytes_append k (n / 256) (n % 256 ∷ bs) u

pub pow_256_pos : (k : ℕ) → 0 < 256 ^ k
pow_256_pos zero = omega arith
pow_256_pos (suc k) = rw (pow-suc 256 k) (let h : 0 < 256 ^ k = pow_256_pos k in omega arith)

-- the highest byte comes first
pub top_byte : (k b v : ℕ) (u : List ℕ) → b < 256 → v < 256 ^ k → in_bytes (suc k) (b * 256 ^ k + v) u ≡ b ∷ in_bytes k v u
unfolding in_bytes
top_byte zero b v u hb hv = ap (λ x. x ∷ u) (omega arith)
top_byte (suc k) b v u hb hv =
    let p : 256 ^ suc k ≡ 256 ^ k * 256 = pow-suc 256 k in
    let q : b * 256 ^ suc k ≡ b * 256 ^ k * 256 = ap (λ x. b * x) p ∙ sym (mul_assoc b (256 ^ k) 256) in
    let d : (b * 256 ^ suc k + v) / 256 ≡ b * 256 ^ k + v / 256 = omega arith in
    let m : (b * 256 ^ suc k + v) % 256 ≡ v % 256 = omega arith in
    let s : v / 256 < 256 ^ k = omega arith in
    ap (λ x. in_bytes (suc k) x ((b * 256 ^ suc k + v) % 256 ∷ u)) d
    ∙ (ap (λ x. in_bytes (suc k) (b * 256 ^ k + v / 256) (x ∷ u)) m ∙ top_byte k b (v / 256) (v % 256 ∷ u) hb s)

pub bytes_step : (k m b : ℕ) (t : List ℕ) → b < 256 → bytes (suc k) m (b ∷ t) ≡ bytes k (m * 256 + b) t
unfolding bytes first
bytes_step k m b t h = ap (λ x. bind (pick x (got b t) nothing) (λ b u. bytes k (m * 256 + b) u)) (lt-ltb b 256 h)

pub bytes_forth : (k m n : ℕ) (u : List ℕ) → n < 256 ^ k → bytes k m (in_bytes k n u) ≡ got (m * 256 ^ k + n) u
unfolding bytes in_bytes
bytes_forth zero m n u h = ap (λ x. got x u) (omega arith)
bytes_forth (suc k) m n u h =
    let b : ℕ = n / 256 ^ k in
    let v : ℕ = n % 256 ^ k in
    let s : n ≡ b * 256 ^ k + v = sym (div-add-mod' n (256 ^ k)) in
    let p : 256 ^ suc k ≡ 256 ^ k * 256 = pow-suc 256 k in
    let hb : b < 256 = (div-lt_iff_lt-mul (pow_256_pos k)).1 (omega (arith, mul_comm 256 (256 ^ k))) in
    let hv : v < 256 ^ k = mod-lt n (pow_256_pos k) in
    let e : m * 256 ^ suc k ≡ m * 256 * 256 ^ k = ap (λ x. m * x) (p ∙ mul_comm (256 ^ k) 256) ∙ sym (mul_assoc m 256 (256 ^ k)) in
    let f : (m * 256 + b) * 256 ^ k ≡ m * 256 * 256 ^ k + b * 256 ^ k = add-mul (m * 256) b (256 ^ k) in
    let z : (m * 256 + b) * 256 ^ k + v ≡ m * 256 ^ suc k + n = omega arith in
    ap (λ x. bytes (suc k) m (in_bytes (suc k) x u)) s
    ∙ (ap (bytes (suc k) m) (top_byte k b v u hb hv)
    ∙ (bytes_step k m b (in_bytes k v u) hb ∙ (bytes_forth k (m * 256 + b) v u hv ∙ ap (λ x. got x u) z)))

-- what was read: digits behind those that were read before
abbrev Digits : ℕ → ℕ → List ℕ → Got ℕ → Type 0
Digits k m t nothing = Unit {0}
Digits k m t (got n u) = (v : ℕ) × (v < 256 ^ k) × (n ≡ m * 256 ^ k + v) × (in_bytes k v u ≡ t)

digits_more : (k m b : ℕ) (t : List ℕ) (g : Got ℕ) → b < 256 → Digits k (m * 256 + b) t g → Digits (suc k) m (b ∷ t) g
digits_more k m b t nothing hb h = tt
digits_more k m b t (got n u) hb h =
    let v : ℕ = h.0 in
    let p : 256 ^ suc k ≡ 256 ^ k * 256 = pow-suc 256 k in
    let l : b * 256 ^ k + v < 256 * 256 ^ k = digits_lt hb h.1 in
    let e : m * 256 ^ suc k ≡ m * 256 * 256 ^ k = ap (λ x. m * x) (p ∙ mul_comm (256 ^ k) 256) ∙ sym (mul_assoc m 256 (256 ^ k)) in
    let f : (m * 256 + b) * 256 ^ k ≡ m * 256 * 256 ^ k + b * 256 ^ k = add-mul (m * 256) b (256 ^ k) in (
      b * 256 ^ k + v,
      omega (arith, mul_comm 256 (256 ^ k)),
      omega (arith, h.2),
      top_byte k b v u hb h.1 ∙ ap (λ l. b ∷ l) h.3,
    )

bytes_more : (k m : ℕ) (t : List ℕ) → ((n : ℕ) (u : List ℕ) → Digits k n u (bytes k n u)) → Digits (suc k) m t (bytes (suc k) m t)
unfolding bytes first
bytes_more k m [] again = tt
bytes_more k m (b ∷ t) again = try (ltb b 256) refl
  where
    try : (x : Bool) → ltb b 256 ≡ x → Digits (suc k) m (b ∷ t) (bind (pick x (got b t) nothing) (λ b u. bytes k (m * 256 + b) u))
    try true e = digits_more k m b t (bytes k (m * 256 + b) t) (ltb-true b 256 e) (again (m * 256 + b) t)
    try false e = tt

pub bytes_back : (k m : ℕ) (t : List ℕ) → Digits k m t (bytes k m t)
unfolding bytes in_bytes
bytes_back zero m t = (0, omega arith, omega arith, refl)
bytes_back (suc k) m t = bytes_more k m t (bytes_back k)

-- any number of eight bytes
abbrev pub a_u64 : ℕ → Bool
a_u64 = below 18446744073709551616

bytes_right : (t : List ℕ) (g : Got ℕ) → Digits 8 0 t g → Right eight a_u64 t g
bytes_right t nothing h = tt
bytes_right t (got n u) h =
    let e : n ≡ h.0 = omega (arith, h.2) in
    (in_bytes_append 8 n [] u ∙ (ap (λ x. in_bytes 8 x u) e ∙ h.3), lt-ltb n 18446744073709551616 (omega (arith, h.1)))

pub exact_bytes : Exact eight a_u64 (bytes 8 0)
exact_bytes =
    record {
      back = λ t. bytes_right t (bytes 8 0 t) (bytes_back 8 0 t);
      forth = λ n u h.
          let s : n < 256 ^ 8 = ltb-true n 18446744073709551616 h in
          let z : 0 * 256 ^ 8 + n ≡ n = omega arith in
          ap (bytes 8 0) (in_bytes_append 8 n [] u) ∙ (bytes_forth 8 0 n u s ∙ ap (λ x. got x u) z);
    }

-- one that passes a test by which it has eight bytes
pub exact_number : (p : ℕ → Bool) → ((n : ℕ) → p n ≡ true → a_u64 n ≡ true) → Exact eight p (number p)
exact_number p h = exact_only eight a_u64 p h exact_bytes

pub exact_below : (m : ℕ) → m ≤ 18446744073709551616 → Exact eight (below m) (number (below m))
exact_below m h = exact_number (below m) (λ n b. lt-ltb n 18446744073709551616 (omega (arith, ltb-true n m b)))

pub exact_up_to : (m : ℕ) → m < 18446744073709551616 → Exact eight (up_to m) (number (up_to m))
exact_up_to m h = exact_number (up_to m) (λ n b. lt-ltb n 18446744073709551616 (omega (arith, leb-true n m b)))

-- a count and so many things
abbrev pub w_counted : {A : Type 0} → (A → List ℕ) → List A → List ℕ
w_counted w xs = eight (length xs) ++ flat w xs

abbrev pub ok_counted : {A : Type 0} → ℕ → (A → Bool) → List A → Bool
ok_counted max ok xs = leb (length xs) max && every ok xs

module _ {A : Type 0} (max : ℕ) (few : max < 18446744073709551616) (w : A → List ℕ) (ok : A → Bool) where
  counted_right : (n : ℕ) (t u : List ℕ) → eight n ++ u ≡ t → leb n max ≡ true → (g : Got (List A)) → Rights w ok n u g → Right (w_counted w) (ok_counted max ok) t g
  counted_right n t u h o nothing x = tt
  counted_right n t u h o (got xs v) x =
      (append_assoc (eight (length xs)) (flat w xs) v ∙ (ap (λ k. eight k ++ (flat w xs ++ v)) x.0 ∙ (ap (λ l. eight n ++ l) x.1 ∙ h)), and_from _ _ (ap (λ k. leb k max) x.0 ∙ o) x.2)

  pub exact_counted : {r : Reader A} → Exact w ok r → Exact (w_counted w) (ok_counted max ok) (counted max r)
  exact_counted {r} e =
      record {
        back = λ t. right_bind eight (up_to max) (w_counted w) (ok_counted max ok) t (number (up_to max) t) _ ((exact_up_to max few).back t)
            (λ n u h o. counted_right n t u h o (so_many r n u) (so_many_back w ok e n u));
        forth = λ xs u h.
            let o = and_parts _ _ h in
            ap (counted max r) (append_assoc (eight (length xs)) (flat w xs) u)
            ∙ (bind_at _ ((exact_up_to max few).forth (length xs) (flat w xs ++ u) o.0) ∙ so_many_forth w ok e xs u o.1);
      }
