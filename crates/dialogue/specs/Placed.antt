-- The numbers that show a place. Assumes nothing: these are definitions.
use Rattle.std.specs.Prelude.{◌≡◌, ℕ, List, [], ◌∷◌, Some, None, Option, ◌≢◌}
use Rattle.target.specs.Whys.{why_number}
use Rattle.dialogue.specs.declared.place.Place.{Place}

abbrev pub numbers_of : Place → List ℕ
numbers_of p = p.time ∷ p.at ∷ why_number p.why ∷ []

-- the place that they show; or they show none
abbrev pub Places : List ℕ → Option Place → Type 0
Places ns (Some p) = numbers_of p ≡ ns
Places ns None = (p : Place) → numbers_of p ≢ ns
