use Rattle.std.proofs.Common.{arith}
use Rattle.std.specs.Option.{option_to_list}
use Rattle.command.specs.Reader.{place, counted}
use Rattle.command.specs.Taken.{left_in}
use Rattle.command.proofs.Texts.{takes_none}
use Rattle.command.proofs.Many.{counted_zero, counted_one, counted_one_none}
use Rattle.command.proofs.reading.cursor.Cursor.maybe_place.Goals as goal

pub returns-then-branch-eq0 : goal.returns-then-branch-eq0
returns-then-branch-eq0 g c = counted_zero place 1 (left_in g.B.Byte.text c.args.self.now) c.in_ok-up_to.ensures.takes c.if-branch-eq0.true

pub returns-in_err-place : goal.returns-in_err-place
returns-in_err-place g c =
    let text = g.B.Byte.text in
    let t = left_in text c.args.self.now in
    let h = c.in_ok-up_to.ensures.within in
    takes_none option_to_list (counted 1 place t) c.from_residual-in_err-place.result (left_in text c.place.new.self) c.from_residual-in_err-place.ensures
    (counted_one_none place 1 t c.in_ok-up_to.ensures.takes (omega arith) c.in_err-place.ensures)

pub returns : goal.returns
returns g c =
    let text = g.B.Byte.text in
    let h = c.in_ok-up_to.ensures.within in
    counted_one place 1 (left_in text c.args.self.now) (left_in text c.place.new.self) c.in_ok-up_to.ensures.takes (omega arith) c.in_ok-place.ensures
