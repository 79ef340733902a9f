use Rattle.command.specs.Reader.{first}
use Rattle.command.specs.Taken.{itself}
use Rattle.command.proofs.Texts.{first_at, first_none, takes_none}
use Rattle.command.proofs.reading.cursor.Cursor.first.Goals as goal

pub returns-in_err-first : goal.returns-in_err-first
returns-in_err-first g c =
    let t = g.B.Byte.text c.args.self.now.rest.now in
    takes_none itself (first t) c.from_residual.result t c.from_residual.ensures
    (first_none g.B.Byte.text g.met.B.Byte.nothing c.args.self.now.rest.now c.in_err-first.ensures.cases)

pub returns : goal.returns
returns g c = first_at g.B.Byte.text g.met.B.Byte.joined c.in_ok-first.ensures.cases.0 c.number.ensures
