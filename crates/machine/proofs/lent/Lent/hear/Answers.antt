use Rattle.std.proofs.Common.{drop, ap}
use Rattle.command.specs.Plain.{core}
use Rattle.command.specs.Reader.{some}
use Rattle.command.specs.Told.{told}
use Rattle.machine.specs.Engine.{begin_read}
use Rattle.machine.proofs.Plans.{carries_at}
use Rattle.machine.proofs.Said.{hears, hears_none}
use Rattle.machine.proofs.lent.Lent.hear.Goals as goal

pub returns-in-Ok-Load : goal.returns-in-Ok-Load
unfolding begin_read core
returns-in-Ok-Load c =
    let m = c.args.self.memory.now in
    let t = c.args.text.now in
    hears m c.args.self.row.now t _ _ _ _ c.in-Ok-Load.ensures.0
    (carries_at m _ c.args.self.row.now _ _ (ap (λ x. begin_read m (some (told (drop 1 t) x))) c.in-Ok-Load.field-0-is) c.load.ensures)

pub returns-in-Ok-Give : goal.returns-in-Ok-Give
unfolding begin_read core
returns-in-Ok-Give c =
    let m = c.args.self.memory.now in
    let t = c.args.text.now in
    hears m c.args.self.row.now t _ _ _ _ c.in-Ok-Give.ensures.0
    (carries_at m _ c.args.self.row.now _ _ (ap (λ x. begin_read m (some (told (drop 1 t) x))) c.in-Ok-Give.field-0-is) c.give.ensures)

pub returns-in-Ok-Order : goal.returns-in-Ok-Order
returns-in-Ok-Order c =
    let m = c.args.self.memory.now in
    let t = c.args.text.now in
    hears m c.args.self.row.now t _ _ _ _ c.in-Ok-Order.ensures.0
    (carries_at m _ c.args.self.row.now _ _ (ap (λ x. begin_read m (some (told (drop 1 t) x))) c.in-Ok-Order.field-0-is) c.obey.ensures)

pub returns-in-Err : goal.returns-in-Err
returns-in-Err c = hears_none c.args.self.memory.now c.args.self.row.now c.args.text.now c.in-Err.ensures
