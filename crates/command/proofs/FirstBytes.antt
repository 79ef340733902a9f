-- What is read by a first byte. Assumes nothing.
use Rattle.std.proofs.Common.{◌≡◌, ℕ, ◌≤◌, Bool, true, false, ltb, List, [], ◌∷◌, refl, ap, ◌∙◌, arith}
use Rattle.std.proofs.lemmas.Bool.{and_parts, ltb-true, ltb-false, ne_eqb}
use Rattle.command.specs.Machine.{pick, every}
use Rattle.command.specs.Reader.{nothing, got, bind, first, byte, below, Way, one_of, by_first}
use Rattle.command.proofs.Picks.{pick_false}

by_fit : (b : ℕ) (t : List ℕ) {k : ℕ} {u : List ℕ} (x : Bool) → pick x (got b t) nothing ≡ got k u → got b t ≡ got k u
by_fit b t true e = e
by_fit b t false e = cc

-- a byte that was read is the first number
pub byte_is_first : (t : List ℕ) {k : ℕ} {u : List ℕ} → byte (below 256) t ≡ got k u → first t ≡ got k u
unfolding first
byte_is_first [] e = e
byte_is_first (b ∷ t) e = by_fit b t (ltb b 256) e

-- no way begins with a number that is no byte
no_way : {A : Type 0} (ws : List (Way A)) (k : ℕ) (t : List ℕ) → every (λ w. ltb w.tag 256) ws ≡ true → 256 ≤ k → one_of ws k t ≡ nothing
no_way [] k t s h = refl
no_way (w ∷ ws) k t s h =
    let p = and_parts (ltb w.tag 256) (every (λ w. ltb w.tag 256) ws) s in
    let l = ltb-true w.tag 256 p.0 in
    pick_false _ _ _ (ne_eqb k w.tag (λ e. omega (arith, e, l, h))) ∙ no_way ws k t p.1 h

module _ {A : Type 0} (ws : List (Way A)) (small : every (λ w. ltb w.tag 256) ws ≡ true) where
  no_fit : (b : ℕ) (t : List ℕ) (x : Bool) → ltb b 256 ≡ x → pick x (got b t) nothing ≡ nothing → one_of ws b t ≡ nothing
  no_fit b t true h e = cc
  no_fit b t false h e = no_way ws b t small (ltb-false b 256 h)

  pub no_byte : (t : List ℕ) → byte (below 256) t ≡ nothing → by_first ws t ≡ nothing
  unfolding first
  no_byte [] e = refl
  no_byte (b ∷ t) e = no_fit b t (ltb b 256) refl e

  pub at_byte : (t : List ℕ) {k : ℕ} {u : List ℕ} → byte (below 256) t ≡ got k u → by_first ws t ≡ one_of ws k u
  at_byte t e = ap (λ g. bind g (one_of ws)) (byte_is_first t e)
