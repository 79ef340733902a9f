use Rattle.std.proofs.Common.{is_ok, sym, ap, subst}
use Rattle.listing.specs.Columns.{Wide}
use Rattle.listing.specs.declared.columns.Counter.{Counter}
use Rattle.listing.proofs.Counts.{wide}
use Rattle.listing.proofs.columns.width.Goals as goal

pub returns : goal.returns
returns g c =
    subst (λ (k : Counter). Wide (g.D.Display.output c.args.value.now) k.bytes) (sym c.into_inner.ensures)
    (wide c.new-f.result c.fmt.new.f c.fmt.result (g.D.Display.output c.args.value.now) c.new-f.ensures.plain
    (ap is_ok c.in_ok-fmt.was) (ap (λ (k : Counter). k.bytes) c.new-f.ensures.writer) (c.fmt.ensures.writes))
