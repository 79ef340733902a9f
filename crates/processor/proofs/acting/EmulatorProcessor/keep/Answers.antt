use Rattle.std.proofs.Common.{◌≡◌, ℕ, ◌<◌, refl, subst, arith}
use Rattle.target.proofs.Doing.{does_keeps, refuses_keeps}
use Rattle.target.specs.Acts.{Keeps, Does}
use Rattle.target.specs.Run.{next, keeps}
use Rattle.processor.specs.declared.emulator.Emulator.{Emulator}
use Rattle.processor.specs.Holding.{Held}
use Rattle.processor.proofs.Holds.{kept_held}
use Rattle.processor.proofs.Faults.{refused}
use Rattle.processor.proofs.acting.EmulatorProcessor.keep.Goals as goal

pub returns-in_err-slot : goal.returns-in_err-slot
returns-in_err-slot c =
    let e = c.args.self.now in
    let h = c.in_err-slot.ensures in
    refused c.from_residual.result _ _ (Keeps c.args.slot (Held e) (Held e)) h.0 c.from_residual.ensures.1 (h.1, refuses_keeps (Held e) (Held e) c.args.slot h.1 (λ t g. g))

-- the slot's number, as it is kept in fewer bits
numbered : (e e₁ : Emulator) (j k : ℕ) → j ≡ k → (j < 256) × Does (keeps j) next 0 (Held e) (Held e₁) → (k < 256) × Does (keeps k) next 0 (Held e) (Held e₁)
numbered e e₁ j k q h = subst (λ i. (i < 256) × Does (keeps i) next 0 (Held e) (Held e₁)) q h

pub returns : goal.returns
returns c =
    let e = c.args.self.now in
    let k = c.kept-kept.ensures in
    let q : c.in_ok-slot.slot ≡ c.args.slot = c.in_ok-slot.ensures in
    let lt : c.in_ok-slot.slot < 256 = omega arith in
    numbered e _ c.in_ok-slot.slot c.args.slot q (
      lt,
      does_keeps (Held e) (Held _) c.in_ok-slot.slot lt
          (kept_held e _ c.in_ok-slot.slot lt refl refl c.kept-kept.result k.at k.regs k.taken k.put refl refl refl refl refl refl c.keep.ensures.same c.keep.ensures.kept),
    )
