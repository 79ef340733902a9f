-- Tests of each element of a list, and those that pass, in the library's words. Assumes nothing.
use Rattle.std.proofs.Common.{◌≡◌, Bool, true, false, ◌&&◌, ◌||◌, List, [], ◌∷◌, refl, ap, ◌∙◌}
use Rattle.std.specs.List.{list_all, list_any, filter}
use Rattle.command.specs.Machine.{any, each, every, or, those}
use Rattle.command.proofs.Picks.{by_test}

or_same : (a b : Bool) → (a || b) ≡ or a b
or_same true b = refl
or_same false b = refl

module _ {A B : Type 0} (p : B → Bool) (f : A → B) where
  pub any_is : (xs : List A) → list_any (λ x. p (f x)) xs ≡ any p (each f xs)
  any_is [] = refl
  any_is (x ∷ xs) = or_same (p (f x)) _ ∙ ap (or (p (f x))) (any_is xs)

  pub every_is : (xs : List A) → list_all (λ x. p (f x)) xs ≡ every p (each f xs)
  every_is [] = refl
  every_is (x ∷ xs) = ap (λ z. p (f x) && z) (every_is xs)

  pub those_are : (xs : List A) → each f (filter (λ x. p (f x)) xs) ≡ those p (each f xs)
  those_are [] = refl
  those_are (x ∷ xs) =
      by_test (p (f x)) (λ (t : p (f x) ≡ true). rw t (ap (λ z. f x ∷ z) (those_are xs))) (λ (t : p (f x) ≡ false). rw t (those_are xs))
