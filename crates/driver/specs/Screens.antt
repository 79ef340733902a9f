-- What is on the screen. Assumes nothing: these are definitions.
use Rattle.std.specs.Prelude.{◌≡◌, ℕ, ◌<◌, Bool, true, false, List, [], ◌∷◌, length, Some, None, Option, Ok, Err, Result}
use Rattle.std.specs.Borrow.{Bor}
use Rattle.driver.specs.declared.event.Ending.{Ending}
use Rattle.driver.specs.declared.event.Ending.TheVariants.{ShownTwice}

abbrev pub showed : (shown : Bool) → (text : List ℕ) → List (List ℕ)
showed true text = text ∷ []
showed false text = []

-- a text is added, or there was one
abbrev pub ShowsIt : Result (Unit {0}) Ending → (before : List (List ℕ)) → List ℕ → (after : List (List ℕ)) → Type 0
ShowsIt (Ok x) before text after = (before ≡ []) × (after ≡ text ∷ [])
ShowsIt (Err e) before text after = (e ≡ ShownTwice) × (0 < length before) × (after ≡ before)

-- what is seen on it
abbrev pub seen_on : Option (Bor (List ℕ)) → List (List ℕ)
seen_on None = []
seen_on (Some text) = text.now ∷ []
