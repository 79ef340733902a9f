-- What a step leaves, on a memory and a row of their lengths.
use Rattle.std.proofs.Common.{◌≡◌, ℕ, ◌≤◌, Bool, true, false, List, length, refl, ◌∙◌, subst}
use Rattle.std.proofs.lemmas.Bool.{false≢true, eq-eqb, le-leb}
use Rattle.target.specs.Run.{Event}
use Rattle.machine.specs.Engine.{own}
use Rattle.machine.specs.Entry.{ActTold, StepSays, step_fits, event_of}
use Rattle.machine.specs.declared.acts.Told.{Told}
use Rattle.machine.proofs.Steps.{fits_is}

module _ (m : List ℕ) (kind a b c : ℕ) (told row : List ℕ) (r : Told) (m₁ row₁ : List ℕ) where
  abbrev pub Stepped : Event → Type 0
  Stepped ev = (m₁ ≡ (own.step m ev).memory) × ActTold (own.step m ev).act r row row₁

  by_fit : (x : Bool) → x ≡ true → StepSays m kind a b c told row x r m₁ row₁ → Stepped (event_of kind a b c told)
  unfolding StepSays
  by_fit true e h = h
  by_fit false e h = absurd (false≢true e)

  pub stepped : (ev : Event) → event_of kind a b c told ≡ ev → length m ≡ 32000 → kind ≤ 3 → 65536 ≤ length row → StepSays m kind a b c told row (step_fits m kind row) r m₁ row₁ → Stepped ev
  stepped ev e l k w h =
      subst Stepped e
      (by_fit (step_fits m kind row) (fits_is m kind row ∙ rw (eq-eqb (length m) 32000 l, le-leb kind 3 k, le-leb 65536 (length row) w) refl) h)
