-- The whole step, by whether what is lent fits.
use Rattle.std.proofs.Common.{◌≡◌, ◌≢◌, ℕ, ◌+◌, ◌<◌, ◌≤◌, true, false, ◌&&◌, eqb, leb, List, [], ◌∷◌, ◌++◌, length, take, drop, refl, ap, ◌∙◌, sym, subst, arith, append_assoc, length-append}
use Rattle.std.proofs.lemmas.List.{length-replicate, length-take-le, drop-append-le, take-append-drop}
use Rattle.std.proofs.lemmas.Bool.{eq-eqb, le-leb}
use Rattle.std.proofs.lemmas.Bool.Decides.{nat_tests}
use Rattle.command.specs.Machine.{flat}
use Rattle.command.specs.Plain.{break_spelled}
use Rattle.target.specs.Run.{Event, Act, starts, feeds, goes, keeps, takes_up, looks_regs, looks_words, looks_outs, looks_where, shows, done, refused}
use Rattle.machine.specs.Engine.{planned, carried, own}
use Rattle.machine.specs.Entry.{on_row, ActTold, Carries, StepSays, step_fits, event_of}
use Rattle.machine.specs.declared.acts.Told.{Told}
use Rattle.machine.specs.declared.acts.Told.TheVariants.{No}
use Rattle.machine.specs.declared.acts.Refusal.TheVariants.{Unfit}

-- what goes with an act is written at the front of a row that is as long as is needed, and the rest of it stays
module _ (row row₁ rest : List ℕ) (l : length row₁ ≡ length row) where
  longer_row : (bs : List ℕ) → row₁ ≡ on_row bs row → row₁ ++ rest ≡ on_row bs (row ++ rest)
  longer_row bs e =
      let n : length row ≡ length bs + length (drop (length bs) row) = sym l ∙ (ap length e ∙ length-append bs (drop (length bs) row)) in
      ap (λ x. x ++ rest) e ∙ (append_assoc bs (drop (length bs) row) rest ∙ ap (λ x. bs ++ x) (sym (drop-append-le (length bs) row rest (omega (arith, n)))))

  longer : (a : Act) (r : Told) → ActTold a r row row₁ → ActTold a r (row ++ rest) (row₁ ++ rest)
  longer (starts is) r (e, o) = (e, longer_row _ o)
  longer (feeds vs) r (e, o) = (e, longer_row _ o)
  longer (goes n bs) r (e, o) = (e, longer_row (length bs ∷ flat break_spelled bs) o)
  longer (keeps k) r (e, o) = (e, ap (λ x. x ++ rest) o)
  longer (takes_up k) r (e, o) = (e, ap (λ x. x ++ rest) o)
  longer looks_regs r (e, o) = (e, ap (λ x. x ++ rest) o)
  longer (looks_words a n) r (e, o) = (e, longer_row (a ∷ n ∷ []) o)
  longer (looks_outs a n) r (e, o) = (e, longer_row (a ∷ n ∷ []) o)
  longer looks_where r (e, o) = (e, ap (λ x. x ++ rest) o)
  longer (shows s) r (e, o) = (e, longer_row _ o)
  longer done r (e, o) = (e, ap (λ x. x ++ rest) o)
  longer (refused k) r (e, o) = (e, ap (λ x. x ++ rest) o)

-- whether it fits
pub fits_is : (m : List ℕ) (kind : ℕ) (out : List ℕ) → step_fits m kind out ≡ (eqb (length m) 32000 && (leb kind 3 && leb 65536 (length out)))
unfolding step_fits own
fits_is m kind out = rw (length-replicate {A = ℕ} 32000 0)

pub fits_all : (m : List ℕ) (kind : ℕ) (out : List ℕ) → length m ≡ 32000 → kind ≤ 3 → 65536 ≤ length out → step_fits m kind out ≡ true
fits_all m kind out l k w = fits_is m kind out ∙ rw (eq-eqb (length m) 32000 l, le-leb kind 3 k, le-leb 65536 (length out) w) refl

module _ (m : List ℕ) (kind : ℕ) (out : List ℕ) where
  pub kind_unfit : 3 < kind → step_fits m kind out ≡ false
  kind_unfit h = let f = fits_is m kind out in grind (arith, nat_tests)

  pub memory_unfit : length m ≢ 32000 → step_fits m kind out ≡ false
  memory_unfit h = let f = fits_is m kind out in grind (arith, nat_tests)

  pub row_unfit : length out < 65536 → step_fits m kind out ≡ false
  row_unfit h = let f = fits_is m kind out in grind (arith, nat_tests)

module _ (m : List ℕ) (kind a b c : ℕ) (told out : List ℕ) where
  pub step_refused : step_fits m kind out ≡ false → StepSays m kind a b c told out (step_fits m kind out) (No Unfit) m out
  unfolding StepSays
  step_refused e = rw e (refl, refl, refl)

  pub step_done : (ev : Event) (r : Told) (cells m₁ row row₁ : List ℕ) → ev ≡ event_of kind a b c told → length m ≡ 32000 → cells ≡ m → kind ≤ 3 →
      65536 ≤ length out → row ≡ take 65536 out → length row₁ ≡ 65536 → Carries (planned cells ev) cells r row m₁ row₁ →
      StepSays m kind a b c told out (step_fits m kind out) r m₁ (row₁ ++ drop 65536 out)
  unfolding StepSays own carried
  step_done ev r cells m₁ row row₁ is l whole k w front n h =
      let same : length row₁ ≡ length row = n ∙ sym (ap length front ∙ length-take-le 65536 out w) in
      let all : row ++ drop 65536 out ≡ out = ap (λ x. x ++ drop 65536 out) front ∙ take-append-drop 65536 out in
      let g : Carries (planned m (event_of kind a b c told)) m r row m₁ row₁ =
      subst (λ e. Carries (planned m e) m r row m₁ row₁) is (subst (λ x. Carries (planned x ev) x r row m₁ row₁) whole h) in
      let act : Act = (planned m (event_of kind a b c told)).act in
      let tells : ActTold act r out (row₁ ++ drop 65536 out) = subst (λ x. ActTold act r x (row₁ ++ drop 65536 out)) all (longer row row₁ (drop 65536 out) same act r g.1) in
      rw (fits_all m kind out l k w, eq-eqb (length m) 32000 l) (g.0, tells)
