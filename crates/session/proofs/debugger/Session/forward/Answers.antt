use Rattle.std.proofs.Common.{◌≡◌, ℕ, ◌+◌, ◌-◌, ◌<◌, ◌∙◌, subst, arith}
use Rattle.checkpoints.specs.Strides.{stride}
use Rattle.session.specs.Does.{Went}
use Rattle.session.proofs.Going.{went_none, went_on, went_stuck, went_same}
use Rattle.session.proofs.Done.{failed}
use Rattle.session.proofs.debugger.Session.forward.Goals as goal

pub loop-left-init : goal.loop-left-init
loop-left-init g c =
    let like = g.P.Processor.like c.args.self.now.processor in
    let z : 0 ≡ c.args.n - c.args.n = omega arith in (omega arith, λ _. omega arith, subst (λ (m : ℕ). Went m like like m) z (went_none like))

pub returns-then-by-eq0 : goal.returns-then-by-eq0
unfolding stride
returns-then-by-eq0 g c =
    let before = g.P.Processor.like c.args.self.now.processor in
    let mid = g.P.Processor.like c.loop-left.self.processor in
    let after = g.P.Processor.like c.go.new.self.processor in
    let s = stride c.loop-left.self.time c.loop-left.left in
    let h = c.in_ok-by.ensures in
    let p : 0 < s = omega arith in (
      omega arith,
      λ f. omega (arith, h.1 (omega (arith, c.loop-left.invariant.1 f, c.if-by-eq0.true)), c.loop-left.invariant.1 f, c.if-by-eq0.true),
      went_stuck before mid after (c.args.n - c.loop-left.left) s c.args.n p (omega arith) c.loop-left.invariant.2
          (subst (λ (b : ℕ). Went s mid after b) c.if-by-eq0.true h.2),
    )

pub loop-left-preserved : goal.loop-left-preserved
loop-left-preserved g c =
    let before = g.P.Processor.like c.args.self.now.processor in
    let mid = g.P.Processor.like c.loop-left.self.processor in
    let after = g.P.Processor.like c.go.new.self.processor in
    let s = stride c.loop-left.self.time c.loop-left.left in
    let m = c.args.n - c.loop-left.left in
    let by = c.in_ok-by.by in
    let h = c.in_ok-by.ensures in
    let e : m + by ≡ c.args.n - (c.loop-left.left - by) = omega (arith, h.0, c.loop-left.invariant.0) in (
      omega (arith, c.loop-left.invariant.0),
      λ f. let o = c.loop-left.invariant.1 (omega (arith, e, f)) in omega (arith, e, o, h.1 (omega (arith, e, o, f))),
      subst (λ (k : ℕ). Went k before after k) e (went_on before mid after m s by c.loop-left.invariant.2 h.2),
    )

pub returns-in_err-by : goal.returns-in_err-by
returns-in_err-by g c =
    let before = g.P.Processor.like c.args.self.now.processor in
    let mid = g.P.Processor.like c.loop-left.self.processor in
    let after = g.P.Processor.like c.go.new.self.processor in
    let h = c.in_err-by.ensures in
    let m = c.args.n - c.loop-left.left in
    failed c.args.n before after c.args.self.now.time c.go.new.self.time c.from_residual.result c.from_residual.ensures.0 m (omega arith) (λ f. h.0 ∙ c.loop-left.invariant.1 f)
    (went_same before mid after m m c.loop-left.invariant.2 h.1)
