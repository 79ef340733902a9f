-- A text that a loop writes part by part. Assumes nothing.
use Rattle.std.proofs.Common.{◌≡◌, ℕ, Bool, true, false, List, [], ◌++◌, is_ok, Ok, Result, sym, refl, subst}
use Rattle.std.specs.declared.fmt.Error.{Error}
use Rattle.std.specs.declared.fmt.Formatter.{Formatter}
use Rattle.std.specs.Fmt.{WritesOnOk}
use Rattle.std.proofs.Output.{writes_on_IsOk-append, writes_in_calls_nil}
use Rattle.command.specs.Machine.{pick}

pub pick_yes : {A : Type 0} (b : Bool) (x y : A) → b ≡ true → pick b x y ≡ x
pick_yes b x y e = subst (λ (k : Bool). pick k x y ≡ x) (sym e) refl

pub pick_no : {A : Type 0} (b : Bool) (x y : A) → b ≡ false → pick b x y ≡ y
pick_no b x y e = subst (λ (k : Bool). pick k x y ≡ y) (sym e) refl

module _ {W : Type 0} (took : W → List ℕ → W → Type 0) where
  -- from f on the whole is printed, if from g on the rest is
  abbrev pub Left : Formatter W → List ℕ → Formatter W → List ℕ → Type 0
  Left f whole g rest = (r : Result (Unit {0}) Error) (h : Formatter W) → WritesOnOk took g r rest h → WritesOnOk took f r whole h

  pub left_all : (f : Formatter W) (whole : List ℕ) → Left f whole f whole
  left_all f whole = λ r h p. p

  pub left_as : (f : Formatter W) (whole : List ℕ) (g : Formatter W) (rest more : List ℕ) → rest ≡ more → Left f whole g rest → Left f whole g more
  left_as f whole g rest more e s = subst (Left f whole g) e s

  -- a turn of the loop that writes a part, and one that writes nothing; e is how the writing went
  pub left_less : (f : Formatter W) (whole : List ℕ) (g : Formatter W) (b : Bool) (text part rest other : List ℕ) (h k : Formatter W) (e : Result (Unit {0}) Error)
      → b ≡ true → text ≡ part → k ≡ h → is_ok e ≡ true → WritesOnOk took g e text h → Left f whole g (pick b (part ++ rest) other) → Left f whole k rest
  left_less f whole g b text part rest other h k e y t same ok p s =
      subst (λ (x : Formatter W). Left f whole x rest) (sym same)
      (λ r m q. left_as f whole g _ _ (pick_yes b (part ++ rest) other y) s r m
      (writes_on_IsOk-append took g h m e r part rest (λ x. ok) (subst (λ (x : List ℕ). WritesOnOk took g e x h) t p) q))

  pub left_same : (f : Formatter W) (whole : List ℕ) (g : Formatter W) (b : Bool) (part rest : List ℕ) (k : Formatter W)
      → b ≡ false → k ≡ g → Left f whole g (pick b part rest) → Left f whole k rest
  left_same f whole g b part rest k n same s =
      subst (λ (x : Formatter W). Left f whole x rest) (sym same) (left_as f whole g _ _ (pick_no b part rest n) s)

  pub left_none : (f : Formatter W) (whole : List ℕ) (g : Formatter W) → Left f whole g [] → WritesOnOk took f (Ok tt) whole g
  left_none f whole g s = s (Ok tt) g (λ plain ok. record { wrote = writes_in_calls_nil took _; plain = plain })
