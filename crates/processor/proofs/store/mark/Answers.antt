use Rattle.std.proofs.Common.{◌≡◌, ℕ, ◌<◌, false, length, get_or, arith, below_more}
use Rattle.processor.proofs.Marks.{none_marked, one_marked, mark_stays, mark_there}
use Rattle.processor.proofs.Defaults.{defaults}
use Rattle.processor.proofs.store.mark.Goals as goal

pub loop-page-init : goal.loop-page-init
loop-page-init c =
    let none : (k : ℕ) → k < length c.fill.new.self → get_or c.fill.new.self k false ≡ false = λ k h. defaults _ _ false (c.fill.ensures.after (λ y e. e)) k in
    (omega (arith, none_marked c.fill.new.self none), λ j h. absurd (omega arith))

pub loop-page-preserved : goal.loop-page-preserved
loop-page-preserved c =
    let h : get_or c.args.tables.now c.loop-page.page-index 0 < length c.loop-page.used = omega (arith, c.requires.inside c.loop-page.page-index (omega arith)) in (
      omega (arith, one_marked c.loop-page.used (get_or c.args.tables.now c.loop-page.page-index 0)),
      below_more _ _ (λ j lt. mark_stays c.loop-page.used _ _ (c.loop-page.invariant.1 j lt)) (mark_there c.loop-page.used _ h),
    )
