use Rattle.std.proofs.Common.{◌≡◌, suc, ◌+◌, ◌-◌, [], length, sym, ap, ◌∙◌, subst, arith}
use Rattle.std.proofs.lemmas.List.{take_all}
use Rattle.command.specs.Machine.{each}
use Rattle.command.specs.Reader.{got}
use Rattle.command.specs.Taken.{left}
use Rattle.command.proofs.Many.{Left, left_start, left_more, left_none, left_end, each_set}
use Rattle.driver.specs.declared.event.Ending.TheVariants.{Refused}
use Rattle.driver.specs.declared.refusal.Refusal.TheVariants.{Fault}
use Rattle.std.proofs.lemmas.Result.{err_from_is_err_and}
use Rattle.driver.proofs.rows.read_back.Goals as goal

pub loop-slot-init : goal.loop-slot-init
loop-slot-init g c =
    let n = length c.args.slots.now in
    subst (λ k. Left g.T.InRow.reader n c.args.text.now k [] c.args.text.now) (omega arith) (left_start g.T.InRow.reader n c.args.text.now)

pub returns-in_err-slot : goal.returns-in_err-slot
returns-in_err-slot g c =
    let n = length c.args.slots.now in
    let k : n - c.loop-slot.slot-index ≡ suc (n - (c.loop-slot.slot-index + 1)) = omega (arith, c.loop-slot-test.true) in
    let none = rw c.in_err-slot.ensures.ok_part at c.next.ensures in
    let p = err_from_is_err_and c.from_residual.result c.from_residual.ensures.1 in
    let v = rw c.in_err-slot.ensures.ok_part at c.in_err-slot.ensures.value in
    let e : c.in_err-slot.field-0.0 ≡ Refused Fault = cc in
    rw p.1 (p.2 ∙ e, left_none g.T.InRow.reader _ _ _ _ _ (left c.loop-slot.cursor) k c.loop-slot.invariant none)

pub loop-slot-preserved : goal.loop-slot-preserved
loop-slot-preserved g c =
    let n = length c.args.slots.now in
    let e : n - c.loop-slot.slot-index ≡ suc (n - (c.loop-slot.slot-index + 1)) = omega (arith, c.loop-slot-test.true) in
    subst (λ l. Left g.T.InRow.reader n c.args.text.now (n - (c.loop-slot.slot-index + 1)) l (left c.next.new.cursor))
    (sym (each_set g.T.InRow.plain c.loop-slot.slot-index c.loop-slot.slot-items c.in_ok-slot.field-0 (omega (arith, c.loop-slot.auto.slot-items, c.loop-slot-test.true))))
    (left_more g.T.InRow.reader _ _ _ _ _ (left c.loop-slot.cursor) e c.loop-slot.invariant (rw c.in_ok-slot.ensures.ok_part at c.next.ensures))

pub returns : goal.returns
returns g c = (
  left c.loop-slot.cursor,
  left_end g.T.InRow.reader _ _ _ _ (left c.loop-slot.cursor) (omega (arith, c.loop-slot-test.false)) c.loop-slot.invariant
      ∙ ap (λ xs. got (each g.T.InRow.plain xs) (left c.loop-slot.cursor)) (take_all c.loop-slot.slot-index c.loop-slot.slot-items (omega (arith, c.loop-slot.auto.slot-items, c.loop-slot-test.false))),
)
