-- The processor's bits and shifts, as its definition has them, are the machine's. Assumes nothing.
use Rattle.std.proofs.Common.{◌≡◌, ℕ, zero, suc, ◌+◌, ◌*◌, ◌/◌, ◌%◌, ◌^◌, ◌<◌, min, max, Bool, true, false, eqb, ◌⊎◌, sym, refl, ap, ◌∙◌, inl, inr, mul_assoc, mul_comm, add-mul, add_comm, pow-suc, arith}
use native.Mathlib.Nat.{add-mul-mod_self_right}
use lib.Bits.{bit_and, bit_or, bit_xor, and_step, or_step, xor_step, differ as apart}
use Rattle.std.proofs.lemmas.Nat.{shr-shr, div-add-mod'}
use Rattle.command.specs.Machine.{pick, or, both, differ, whole, bits, twice, halved}

digit : (x : ℕ) → x < 2 → (x ≡ 0) ⊎ (x ≡ 1)
digit zero h = inl refl
digit (suc zero) h = inr refl
digit (suc (suc x)) h = absurd (omega arith)

-- one digit of each
abbrev Digits : (Bool → Bool → Bool) → (ℕ → ℕ → ℕ) → Type 0
Digits f g = (x y : ℕ) → x < 2 → y < 2 → pick (f (eqb x 1) (eqb y 1)) 1 0 ≡ g x y

digits : (f : Bool → Bool → Bool) (g : ℕ → ℕ → ℕ)
    → pick (f false false) 1 0 ≡ g 0 0 → pick (f false true) 1 0 ≡ g 0 1 → pick (f true false) 1 0 ≡ g 1 0 → pick (f true true) 1 0 ≡ g 1 1
    → Digits f g
digits f g a b c d x y hx hy =
    elim (digit x hx) [
      | inl p ↦ elim (digit y hy) [ inl q ↦ rw (p, q) a | inr q ↦ rw (p, q) b ]
      | inr p ↦ elim (digit y hy) [ inl q ↦ rw (p, q) c | inr q ↦ rw (p, q) d ]
    ]

half : (a n : ℕ) → a < 2 ^ suc n → a / 2 < 2 ^ n
half a n h = omega (arith, pow-suc 2 n)

-- digit by digit
by_digits : (f : Bool → Bool → Bool) (g : ℕ → ℕ → ℕ) (op : ℕ → ℕ → ℕ)
    → Digits f g → op 0 0 ≡ 0 → ((a b : ℕ) → op a b ≡ op (a / 2) (b / 2) * 2 + g (a % 2) (b % 2))
    → (n a b : ℕ) → a < 2 ^ n → b < 2 ^ n → bits f a b n ≡ op a b
unfolding bits
by_digits f g op d z s zero a b ha hb =
    let p : a ≡ 0 = omega arith in
    let q : b ≡ 0 = omega arith in
    rw (p, q) (sym z)
by_digits f g op d z s (suc n) a b ha hb =
    let h = by_digits f g op d z s n (a / 2) (b / 2) (half a n ha) (half b n hb) in
    let e = d (a % 2) (b % 2) (omega arith) (omega arith) in
    let k = s a b in
    omega arith

pub and_bits : (a b : ℕ) → a < whole → b < whole → bits both a b 32 ≡ bit_and a b
and_bits = by_digits both min bit_and (digits both min refl refl refl refl) refl and_step 32

pub or_bits : (a b : ℕ) → a < whole → b < whole → bits or a b 32 ≡ bit_or a b
or_bits = by_digits or max bit_or (digits or max refl refl refl refl) refl or_step 32

pub xor_bits : (a b : ℕ) → a < whole → b < whole → bits differ a b 32 ≡ bit_xor a b
xor_bits = by_digits differ apart bit_xor (digits differ apart refl refl refl refl) refl xor_step 32

mod_times : (x y m : ℕ) → (x % m) * y % m ≡ x * y % m
mod_times x y m =
    let e : x * y ≡ (x % m) * y + (x / m * y) * m =
    ap (λ z. z * y) (sym (div-add-mod' x m)) ∙ add-mul (x / m * m) (x % m) y ∙ add_comm (x / m * m * y) ((x % m) * y)
    ∙ ap (λ z. (x % m) * y + z) (mul_assoc (x / m) m y ∙ ap (λ z. x / m * z) (mul_comm m y) ∙ sym (mul_assoc (x / m) y m)) in
    sym (ap (λ z. z % m) e ∙ add-mul-mod_self_right ((x % m) * y) (x / m * y) m)

pub twice_shifts : (n a : ℕ) → a < whole → twice n a ≡ a * 2 ^ n % whole
unfolding twice
twice_shifts zero a h = omega arith
twice_shifts (suc n) a h =
    twice_shifts n (2 * a % whole) (omega arith) ∙ mod_times (2 * a) (2 ^ n) whole
    ∙ ap (λ z. z % whole) (ap (λ z. z * 2 ^ n) (mul_comm 2 a) ∙ mul_assoc a 2 (2 ^ n) ∙ ap (λ z. a * z) (mul_comm 2 (2 ^ n) ∙ sym (pow-suc 2 n)))

pub halved_shifts : (n a : ℕ) → halved n a ≡ a / 2 ^ n
unfolding halved
halved_shifts zero a = omega arith
halved_shifts (suc n) a = halved_shifts n (a / 2) ∙ shr-shr a 1 n ∙ ap (λ z. a / 2 ^ z) (let e : 1 + n ≡ suc n = omega arith in e)
