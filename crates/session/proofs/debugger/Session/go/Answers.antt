use Rattle.std.proofs.Common.{ℕ, [], subst, arith}
use Rattle.target.specs.Run.{goes, came}
use Rattle.target.specs.Acts.{Does}
use Rattle.target.specs.Whys.{why_number}
use Rattle.checkpoints.specs.Strides.{stride}
use Rattle.session.proofs.Going.{gone_few}
use Rattle.session.proofs.Done.{went_by}
use Rattle.session.proofs.debugger.Session.go.Goals as goal

pub returns : goal.returns
unfolding stride
returns g c =
    let n = stride c.args.self.now.time c.args.left in
    let before = g.P.Processor.like c.args.self.now.processor in
    let after = g.P.Processor.like c.goes.new.self in
    let by = c.in_ok-came.came.by in
    let d =
    subst (λ (k : ℕ). Does (goes k []) (came by c.in_ok-came.came.hit (why_number c.in_ok-came.came.why)) by before after)
    c.stride-most.ensures c.in_ok-came.ensures.goes.1 in
    let w = went_by before after n by c.in_ok-came.came.hit (why_number c.in_ok-came.came.why) d in (
      omega (arith, c.min-by.ensures, c.stride-most.ensures),
      λ f. omega (arith, c.saturating_add-self.ensures),
      λ t h. ((w t h).0, omega (arith, (w t h).1, gone_few n t, c.min-by.ensures, c.stride-most.ensures)),
    )
