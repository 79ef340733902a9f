-- A test of each element, as the library's searches make it. Assumes nothing.
use Rattle.std.proofs.Common.{◌≡◌, Bool, true, false, ◌&&◌, ◌||◌, List, [], ◌∷◌, refl, ap, ◌∙◌}
use Rattle.std.specs.List.{list_any, list_all}
use Rattle.command.specs.Machine.{each, every, any, or}

module _ {A B : Type 0} (p : B → Bool) (f : A → B) where
  either : (a b : Bool) → (a || b) ≡ or a b
  either true b = refl
  either false b = refl

  pub any_each : (xs : List A) → list_any (λ x. p (f x)) xs ≡ any p (each f xs)
  any_each [] = refl
  any_each (x ∷ xs) = either (p (f x)) _ ∙ ap (or (p (f x))) (any_each xs)

  pub every_each : (xs : List A) → list_all (λ x. p (f x)) xs ≡ every p (each f xs)
  every_each [] = refl
  every_each (x ∷ xs) = ap (λ z. p (f x) && z) (every_each xs)
