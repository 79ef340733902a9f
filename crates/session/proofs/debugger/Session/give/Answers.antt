use Rattle.std.proofs.Common.{refl, arith}
use Rattle.session.proofs.Done.{fed_by}
use Rattle.session.proofs.debugger.Session.give.Goals as goal

pub returns : goal.returns
returns g c =
    record {
      given = (
        omega (arith, c.saturating_add.ensures),
        refl,
        fed_by (g.P.Processor.like c.args.self.now.processor) (g.P.Processor.like c.feed.new.self) c.args.more.now c.in_ok-feed.ensures,
      );
      time = refl;
    }
