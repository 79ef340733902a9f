use Rattle.std.proofs.Common.{◌≡◌, ◌+◌, ◌<◌, true, false, length, sym, refl, ◌∙◌, subst, arith}
use Rattle.processor.proofs.Flushes.{Flushing, flushed_more, flushed_already}
use Rattle.processor.proofs.Defaults.{other_default}
use Rattle.processor.proofs.keeping.flush.Goals as goal
use Rattle.processor.proofs.keeping.flush.Goals.{then-written, else-written}

pub loop-p-init : goal.loop-p-init
loop-p-init c = (omega (arith, c.requires.room), λ a h. absurd (omega arith), c.requires.clean, λ row a h ha. refl)

pub loop-p-preserved : goal.loop-p-preserved
loop-p-preserved c =
    let ws = c.args.items.now in
    let dirty = c.args.dirty.now in
    let before = c.args.pages.now in
    let p = c.loop-p.p in
    let more = Flushing ws dirty before (p + 1) in
    elim c.if-written.branch [
      | then-written w ↦
          subst more (sym w.pages-is) (flushed_more ws dirty before c.loop-p.pages w.store.new.self p (omega arith) w.store.ensures.room w.store.ensures.stored c.loop-p.invariant)
      | else-written w ↦
          let h : p < length dirty = omega arith in
          subst more (sym w.pages-is) (flushed_already ws dirty before c.loop-p.pages p (omega arith) (other_default dirty p true false h ∙ w.if-written.false) c.loop-p.invariant)
    ]

pub returns : goal.returns
returns c =
    let e : c.loop-p.p ≡ 256 = omega arith in
    record { present = λ a h. c.loop-p.invariant.1 a (omega arith); others = c.loop-p.invariant.3 }
