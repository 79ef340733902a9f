use Rattle.std.proofs.Common.{◌≡◌, ℕ, ◌<◌, length, get_or, None, vec_items, sym, refl, ap, ◌∙◌, subst, arith}
use Rattle.target.proofs.Doing.{does_takes, refuses_takes}
use Rattle.target.specs.Acts.{TakesUp, Does}
use Rattle.target.specs.Run.{next, takes_up}
use Rattle.processor.specs.declared.emulator.Emulator.{Emulator}
use Rattle.processor.specs.Holding.{Held}
use Rattle.processor.specs.Held.{held_word}
use Rattle.processor.specs.declared.words.Words.{Words}
use Rattle.processor.proofs.Defaults.{other_default}
use Rattle.processor.proofs.Holds.{taken_held, empty_held}
use Rattle.processor.proofs.Faults.{refused, none_fault}
use Rattle.processor.proofs.acting.EmulatorProcessor.take_up.Goals as goal

pub returns-in_err-slot : goal.returns-in_err-slot
returns-in_err-slot c =
    let e = c.args.self.now in
    let h = c.in_err-slot.ensures in
    refused c.from_residual.result _ _ (TakesUp c.args.slot (Held e) (Held e)) h.0 c.from_residual.ensures.1
    (h.1, refuses_takes (Held e) (Held e) c.args.slot (λ t g. (g, g.1.no_more c.args.slot h.1)))

pub returns-in_err-kept : goal.returns-in_err-kept
returns-in_err-kept c =
    let e = c.args.self.now in
    let q : c.in_ok-slot.slot ≡ c.args.slot = c.in_ok-slot.ensures in
    let lt : c.args.slot < 256 = omega arith in
    let there : c.in_ok-slot.slot < length (vec_items e.slots) = omega (arith, e.many, e.slots.ok.0) in
    let h = none_fault c.index.result.now _ _ (sym c.in_err-kept.ensures.value) in
    let none = other_default (vec_items e.slots) c.in_ok-slot.slot None c.index.result.now there ∙ sym c.index.ensures ∙ h.0 in
    refused c.from_residual-in_err-kept.result _ _ (TakesUp c.args.slot (Held e) (Held e)) h.1 c.from_residual-in_err-kept.ensures.1
    (lt, refuses_takes (Held e) (Held e) c.args.slot (λ t g. (g, empty_held e c.args.slot lt (rw q at none) t g)))

-- the slot's number, as it is kept in fewer bits
numbered : (e e₁ : Emulator) (j k : ℕ) → j ≡ k → (j < 256) × Does (takes_up j) next 0 (Held e) (Held e₁) → (k < 256) × Does (takes_up k) next 0 (Held e) (Held e₁)
numbered e e₁ j k q h = subst (λ i. (i < 256) × Does (takes_up i) next 0 (Held e) (Held e₁)) q h

pub returns : goal.returns
returns c =
    let e = c.args.self.now in
    let q : c.in_ok-slot.slot ≡ c.args.slot = c.in_ok-slot.ensures in
    let lt : c.in_ok-slot.slot < 256 = omega arith in
    let there : c.in_ok-slot.slot < length (vec_items e.slots) = omega (arith, e.many, e.slots.ok.0) in
    let some = other_default (vec_items e.slots) c.in_ok-slot.slot None c.index.result.now there ∙ sym c.index.ensures ∙ c.in_ok-kept.ensures.ok_part in
    let r = c.resume.ensures in
    numbered e _ c.in_ok-slot.slot c.args.slot q (
      lt,
      does_takes (Held e) (Held _) c.in_ok-slot.slot
          (taken_held e _ c.in_ok-slot.slot lt refl refl refl c.in_ok-kept.kept some r.at r.regs r.taken r.put r.log
          (λ a h. ap (λ (w : Words). get_or (vec_items w.items) a 0) r.words ∙ c.take_up.ensures.taken a h)
          (λ row a hr h. ap (λ (w : Words). held_word w.pages row a) r.words ∙ c.take_up.ensures.rows row a hr h)),
    )
