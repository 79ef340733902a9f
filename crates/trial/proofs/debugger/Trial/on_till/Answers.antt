use Rattle.std.proofs.Common.{refl, sym, ◌∙◌}
use Rattle.command.specs.Plain.{moved}
use Rattle.trial.proofs.Loops.{moved_as, on_stuck, on_done, on_more, on_hit}
use Rattle.trial.proofs.debugger.Trial.on_till.Goals as goal

pub returns-then-not-branch : goal.returns-then-not-branch
returns-then-not-branch g c w bs tells k =
    let i = c.loop.invariant w bs tells k in
    let r = c.in_ok-goes_on.ensures.goes (moved w c.loop.self.now) i.0 in
    moved_as w _ _ (on_stuck w bs c.loop.self.now c.args.most c.loop.counter i.1 (r.0 ∙ c.if-not-branch.true)) (rw c.if-not-branch.true at r.1)

pub returns-then-stops : goal.returns-then-stops
returns-then-stops g c w bs tells k =
    let i = c.loop.invariant w bs tells k in
    let r = c.in_ok-goes_on.ensures.goes (moved w c.loop.self.now) i.0 in
    let h = rw c.if-not-branch.false at r.1 in
    let m = moved_as w _ _ (sym h.time) h in
    let later = c.in_ok-goes_on.ensures.later c.if-not-branch.false in
    let e = tells c.goes_on.new.self c.stops.result c.goes_on.new.self.now later m (record { shown = _; shows = refl; says = record { met = c.stops.ensures } }) in
    moved_as w _ _ (on_hit w bs c.loop.self.now c.args.most c.loop.counter i.1 c.goes_on.new.self.now c.loop-test.true (sym h.time) (r.0 ∙ c.if-not-branch.false) (sym e ∙ c.if-stops.true)) m

pub loop-preserved : goal.loop-preserved
loop-preserved g c w bs tells k =
    let i = c.loop.invariant w bs tells k in
    let r = c.in_ok-goes_on.ensures.goes (moved w c.loop.self.now) i.0 in
    let h = rw c.if-not-branch.false at r.1 in
    let m = moved_as w _ _ (sym h.time) h in
    let later = c.in_ok-goes_on.ensures.later c.if-not-branch.false in
    let e = tells c.goes_on.new.self c.stops.result c.goes_on.new.self.now later m (record { shown = _; shows = refl; says = record { met = c.stops.ensures } }) in (
      m,
      on_more w bs c.loop.self.now c.args.most c.loop.counter i.1 c.goes_on.new.self.now c.loop-test.true (sym h.time) (r.0 ∙ c.if-not-branch.false) (sym e ∙ c.if-stops.false),
    )

pub returns : goal.returns
returns g c w bs tells k =
    let i = c.loop.invariant w bs tells k in
    moved_as w _ _ (on_done w bs c.loop.self.now c.args.most c.loop.counter i.1 c.loop-test.false) i.0
