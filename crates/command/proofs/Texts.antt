-- Readers at texts that are known in part: by their first number, or by what is read of them.
use Rattle.std.proofs.Common.{◌≡◌, ℕ, suc, ◌+◌, ◌*◌, ◌<◌, Bool, true, List, [], ◌∷◌, ◌++◌, length, Some, None, Option, sym, refl, ap, ◌∙◌, subst, arith}
use Rattle.command.proofs.Readers.{Exact, Right, bind_at}
use Rattle.command.specs.Taken.{Takes}
use Rattle.command.specs.Reader.{Got, nothing, got, Reader, bind, byte, bytes, first, below}

pub text_none : (t : List ℕ) → length t < 1 → t ≡ []
text_none [] h = refl
text_none (b ∷ t) h = absurd (omega arith)

-- the first number of a text, however its bytes are held
module _ {B : Type 0} (text : List B → List ℕ) where
  pub first_at : (joined : (s t : List B) → text (s ++ t) ≡ text s ++ text t) {s rest : List B} {b : B} {n : ℕ} → s ≡ b ∷ rest → text (b ∷ []) ≡ n ∷ [] → first (text s) ≡ got n (text rest)
  unfolding first
  first_at joined {s} {rest} {b} e h = ap (λ l. first (text l)) e ∙ ap first (joined (b ∷ []) rest ∙ ap (λ l. l ++ text rest) h)

  pub first_none : text [] ≡ [] → (s : List B) → length s ≡ 0 → first (text s) ≡ nothing
  unfolding first
  first_none none [] h = ap first none
  first_none none (b ∷ s) h = absurd (omega arith)

-- what an exact reader read was written so, and is as it should be
pub read_so : {A : Type 0} {w : A → List ℕ} {ok : A → Bool} {r : Reader A} (e : Exact w ok r) {t u : List ℕ} {a : A} → r t ≡ got a u → (w a ++ u ≡ t) × (ok a ≡ true)
read_so {A} {w} {ok} e {t} h = subst (Right w ok t) h (e.back t)

-- go on with what was read, or with nothing
pub bind_nothing : {A B : Type 0} {g : Got A} (k : A → Reader B) → g ≡ nothing → bind g k ≡ nothing
bind_nothing k e = ap (λ g. bind g k) e

-- one byte more
pub bytes_none : (k n : ℕ) (t : List ℕ) → byte (below 256) t ≡ nothing → bytes (suc k) n t ≡ nothing
unfolding bytes
bytes_none k n t e = bind_nothing _ e

pub bytes_more : (k n : ℕ) (t : List ℕ) {b : ℕ} {u : List ℕ} → byte (below 256) t ≡ got b u → bytes (suc k) n t ≡ bytes k (n * 256 + b) u
unfolding bytes
bytes_more k n t e = bind_at _ e

pub bytes_done : (k n : ℕ) (t : List ℕ) → k ≡ 0 → bytes k n t ≡ got n t
unfolding bytes
bytes_done k n t e = ap (λ x. bytes x n t) e

-- nothing is taken where nothing is read
pub takes_none : {A B : Type 0} (m : B → A) (g : Got A) (r : Option B) (u : List ℕ) → r ≡ None → g ≡ nothing → Takes m g r u
takes_none {A} {B} m g r u e h = subst (λ (x : Option B). Takes m g x u) (sym e) h

-- what was taken, by whether it was
module _ {A B : Type 0} (m : B → A) (g : Got A) (u : List ℕ) where
  pub took : {r : Option B} {b : B} → r ≡ Some b → Takes m g r u → g ≡ got (m b) u
  took e h = subst (λ (x : Option B). Takes m g x u) e h

  pub took_none : {r : Option B} → r ≡ None → Takes m g r u → g ≡ nothing
  took_none e h = subst (λ (x : Option B). Takes m g x u) e h
