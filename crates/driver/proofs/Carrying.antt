-- Any act that is carried, whatever was shown before.
use Rattle.std.proofs.Common.{◌≡◌, ℕ, List, [], ◌∷◌, ◌++◌, length, Ok, Err, Result, sym, refl, ap, ◌∙◌, subst, add-zero, arith}
use Rattle.std.proofs.lemmas.List.{length-take}
use Rattle.target.specs.Run.{Act, Target, shows, one_act, refusal_end, ran, world, next}
use Rattle.machine.specs.Entry.{ActTold, refusal_number as told_number}
use Rattle.machine.specs.declared.acts.Refusal.{Refusal as Reason}
use Rattle.machine.specs.declared.acts.Told.{Told}
use Rattle.machine.specs.declared.acts.Told.TheVariants.{Shows, Done, No}
use Rattle.driver.specs.Carried.{Served, Serves, Carried, Carries, Shown, SoundHeard}
use Rattle.driver.specs.Refusals.{refusal_number}
use Rattle.driver.specs.declared.event.Event.{Event}
use Rattle.driver.specs.declared.event.Ending.{Ending}
use Rattle.driver.specs.declared.event.Ending.TheVariants as ending
use Rattle.driver.specs.declared.refusal.Refusal.{Refusal}
use Rattle.driver.proofs.Shapes.{shape}

abbrev Heard : Type 0
Heard = Result Event Ending

-- what is told after a text was shown
pub shown_sound : (h : Heard) (n : ℕ) (row : List ℕ) (ss ss₁ : List (List ℕ)) → Shown h n row ss ss₁ → (k : ℕ) → SoundHeard h k
shown_sound (Ok ev) n row ss ss₁ (e, z, y) k = subst (λ x. SoundHeard (Ok x) k) (sym e) tt
shown_sound (Err e) n row ss ss₁ s k = tt

module _ (row : List ℕ) (before after : Target → Type 0) (room : ℕ) (seen : List ℕ) (ss : List (List ℕ)) where
  served_carried : (a : Act) (t : Target) (h : Heard) → Served a t h room after seen → Carried a t ss h room after ss seen
  served_carried a t (Ok ev) s = (s.0, s.1, λ go k m. s.2 go ss k m)
  served_carried a t (Err ending.Done) s = (s.0, refl, λ go k m. s.1 go ss k m)
  served_carried a t (Err (ending.Refused why)) s = (s.0, refl, λ go k m. s.1 go ss k m)
  served_carried a t (Err ending.NoMemory) s = s
  served_carried a t (Err ending.ShownTwice) s = absurd s

  pub serves_carries : (told : Told) {r : Told} (h : Heard) → r ≡ told → Serves told row before h room after seen → Carries r row before ss h room after ss seen
  unfolding Serves Carries
  serves_carries told {r} h e s t l a row₀ told-so f fair = served_carried a t h (s t l a row₀ (subst (λ x. ActTold a x row₀ row) e told-so) f fair)

  pub done_carried : (r : Told) → r ≡ Done → ((t : Target) → before t → after t) → Carries r row before ss (Err ending.Done) room after ss seen
  unfolding Carries one_act
  done_carried r e same t l a row₀ told-so f fair =
      subst (λ x. Carried x t ss (Err ending.Done) room after ss seen) (sym (shape a Done row₀ row (subst (λ x. ActTold a x row₀ row) e told-so))) (same t l, refl, λ go k m. refl)

  pub refused_carried : (r : Told) (why : Reason) (e : Refusal) → r ≡ No why → refusal_number e ≡ refusal_end (told_number why) → ((t : Target) → before t → after t) →
      Carries r row before ss (Err (ending.Refused e)) room after ss seen
  unfolding Carries one_act
  refused_carried r why e q z same t l a row₀ told-so f fair =
      subst (λ x. Carried x t ss (Err (ending.Refused e)) room after ss seen) (sym (shape a (No why) row₀ row (subst (λ x. ActTold a x row₀ row) q told-so)))
      (same t l, refl, λ go k m. ap (λ x. ran (world t m) ss k x) (sym z))

  -- a text is shown
  pub shows_carried : (r : Told) (n : ℕ) (h : Heard) (ss₁ : List (List ℕ)) → r ≡ Shows n → Shown h n row ss ss₁ → ((t : Target) → before t → after t) → Carries r row before ss h room after ss₁ seen
  unfolding Carries one_act
  shows_carried r n (Ok ev) ss₁ q (e, none, full) same t l a row₀ told-so f fair =
      let k = shape a (Shows n) row₀ row (subst (λ x. ActTold a x row₀ row) q told-so) in
      let p : ss ++ k.0 ∷ [] ≡ ss₁ = ap (λ x. x ++ k.0 ∷ []) none ∙ (ap (λ x. x ∷ []) (sym k.3) ∙ sym full) in
      subst (λ x. Carried x t ss (Ok ev) room after ss₁ seen) (sym k.1)
      (subst (λ x. Carried (shows k.0) t ss (Ok x) room after ss₁ seen) (sym e) (t, same t l, λ go j m. rw (add-zero j) (ap (λ x. go (world t m) next x j) p)))
  shows_carried r n (Err ending.Done) ss₁ q s same t l a row₀ told-so f fair = absurd s
  shows_carried r n (Err (ending.Refused why)) ss₁ q s same t l a row₀ told-so f fair =
      let k = shape a (Shows n) row₀ row (subst (λ x. ActTold a x row₀ row) q told-so) in absurd (omega (arith, s.0, k.2, ap length k.3, length-take n row))
  shows_carried r n (Err ending.NoMemory) ss₁ q s same t l a row₀ told-so f fair = absurd s
  shows_carried r n (Err ending.ShownTwice) ss₁ q s same t l a row₀ told-so f fair = let k = shape a (Shows n) row₀ row (subst (λ x. ActTold a x row₀ row) q told-so) in (k.0, k.1, s)
