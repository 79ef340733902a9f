use Rattle.std.proofs.Common.{◌≡◌, subst, arith}
use Rattle.command.specs.Breaks.{breaks_of}
use Rattle.command.specs.Codes.{codes}
use Rattle.processor.proofs.Goes.{SoFar, far_on, far_hit, far_not, far_all}
use Rattle.processor.proofs.state.State.goes.Goals as goal

pub returns-in-Err-clause-came : goal.returns-in-Err-clause-came
returns-in-Err-clause-came c =
    λ b s l.
    far_not (codes c.args.program.now) c.args.fed.now (breaks_of c.args.breaks.now) b c.loop-by.self c.step.new.self c.args.n c.loop-by.by s
    c.in-Err.why c.loop-by-test.true (c.loop-by.invariant.2 b s l) (c.in-Err.ensures.after b)

pub returns-then-any_holds-clause-came : goal.returns-then-any_holds-clause-came
returns-then-any_holds-clause-came c =
    λ b s l.
    far_hit (codes c.args.program.now) c.args.fed.now (breaks_of c.args.breaks.now) b c.loop-by.self c.step.new.self c.args.n c.loop-by.by s
    c.in-Ok.wrote c.any_holds.result c.loop-by-test.true (c.loop-by.invariant.2 b s l) (c.in-Ok.ensures.after b) (c.any_holds.ensures b) c.if-any_holds.true

pub loop-by-preserved : goal.loop-by-preserved
loop-by-preserved c = (
  omega (arith, c.in-Ok.ensures.room.cap, c.in-Ok.ensures.room.put),
  omega (arith, c.in-Ok.ensures.room.cap),
  λ b s l.
      far_on (codes c.args.program.now) c.args.fed.now (breaks_of c.args.breaks.now) b c.loop-by.self c.step.new.self c.args.n c.loop-by.by s
      c.in-Ok.wrote c.any_holds.result c.loop-by-test.true (c.loop-by.invariant.2 b s l) (c.in-Ok.ensures.after b) (c.any_holds.ensures b) c.if-any_holds.false,
)

pub returns-clause-came : goal.returns-clause-came
returns-clause-came c =
    let is = codes c.args.program.now in
    let bs = breaks_of c.args.breaks.now in
    let e : c.loop-by.by ≡ c.args.n = omega arith in
    λ b s l. far_all is c.args.fed.now bs b c.loop-by.self c.loop-by.self c.args.n c.args.n s (subst (λ k. SoFar is c.args.fed.now bs b c.loop-by.self c.args.n k s) e (c.loop-by.invariant.2 b s l))
