use Rattle.std.proofs.Common.{eqb, refl, sym, ap, ◌∙◌}
use Rattle.command.specs.Machine.{any, each}
use Rattle.command.specs.Plain.{drop_break}
use Rattle.trial.specs.Kept.{break_numbered}
use Rattle.trial.specs.declared.turns.Refusal.TheVariants.{NoSuch}
use Rattle.trial.proofs.Moves.{without_break}
use Rattle.trial.proofs.Turning.{done_as, refused_with, turn_drop, turn_drop_no}
use Rattle.trial.proofs.debugger.Trial.drop_break.Goals as goal

pub returns-then-not-has : goal.returns-then-not-has
returns-then-not-has c w k =
    let e = ap (any (λ b. eqb b.id c.args.number)) (k.breaks ∙ ap (each break_numbered) (sym c.as_slice.ensures.value)) ∙ sym c.has.ensures ∙ c.if-not-has.true in
    refused_with _ w (drop_break c.args.number) _ NoSuch refl (turn_drop_no w c.args.number e) k

pub returns : goal.returns
returns c w k =
    let e = ap (any (λ b. eqb b.id c.args.number)) (k.breaks ∙ ap (each break_numbered) (sym c.as_slice.ensures.value)) ∙ sym c.has.ensures ∙ c.if-not-has.false in
    done_as _ w (drop_break c.args.number) _ _ refl (turn_drop w c.args.number e) (without_break _ _ _ _ _ _ _ w k c.args.number _ c.remove.ensures.rest)
