use Rattle.std.proofs.Common.{sym, subst, refl}
use Rattle.command.specs.Machine.{Instr as Asked}
use Rattle.command.specs.Codes.{code}
use Rattle.command.specs.Reader.{Got, instr, instr_ways}
use Rattle.command.specs.Taken.{left_in, Takes}
use Rattle.command.proofs.FirstBytes.{no_byte, at_byte}
use Rattle.command.proofs.Texts.{takes_none}
use Rattle.command.proofs.reading.cursor.Cursor.instr.Goals as goal

pub returns-in_err-kind : goal.returns-in_err-kind
unfolding instr
returns-in_err-kind g c =
    let t = left_in g.B.Byte.text c.args.self.now in
    takes_none code (instr t) c.from_residual.result (left_in g.B.Byte.text c.kind.new.self) c.from_residual.ensures (no_byte instr_ways refl t c.in_err-kind.ensures)

pub returns : goal.returns
unfolding instr
returns g c =
    let t = left_in g.B.Byte.text c.args.self.now in
    subst (λ (x : Got Asked). Takes code x c.instr_of.result (left_in g.B.Byte.text c.instr_of.new.self)) (sym (at_byte instr_ways refl t c.in_ok-kind.ensures)) c.instr_of.ensures
