use Rattle.std.proofs.Common.{◌≡◌, ◌<◌, ◌≤◌, refl, sym, ◌∙◌, ⊎_elim, arith}
use Rattle.std.proofs.lemmas.Bool.{cases_lt}
use Rattle.std.specs.Fn.{FnReturnsAt}
use Rattle.command.specs.Plain.{moved}
use Rattle.trial.proofs.Loops.{moved_as, back_zero, back_done, back_more, back_hit}
use Rattle.trial.proofs.debugger.Trial.back_till.Goals as goal

pub returns-then-stops : goal.returns-then-stops
returns-then-stops g c =
    record {
      kept = λ w bs tells k.
          let i = c.loop.invariant.1 w bs tells k in
          let h = c.undo.ensures.kept (moved w c.loop.self.now) i.0 in
          let m = moved_as w _ _ (sym h.time) h in
          let lt : c.loop.counter < c.args.most = omega (arith, c.min-end.ensures, c.loop-test.true) in
          let pos : 0 < c.loop.self.now = omega (arith, c.min-end.ensures, c.loop-test.true, c.loop.invariant.0) in
          moved_as w _ _
          (back_hit w bs c.loop.self.now c.args.most c.loop.counter i.1 c.undo.new.self.now lt pos (sym h.time)
          (λ up. sym (tells c.undo.new.self c.stops.result c.undo.new.self.now up m (record { shown = _; shows = refl; says = record { met = c.stops.ensures } })) ∙ c.if-stops.true)) m;
      time = λ never.
          let says : FnReturnsAt g.F.Fn c.args.stops c.undo.new.self c.stops.result = record { shown = _; shows = refl; says = record { met = c.stops.ensures } } in
          absurd (never c.undo.new.self (rw c.if-stops.true at says));
    }

pub loop-preserved : goal.loop-preserved
loop-preserved g c = (
  omega (arith, c.min-end.ensures, c.loop-test.true, c.loop.invariant.0, c.undo.ensures.time),
  λ w bs tells k.
      let i = c.loop.invariant.1 w bs tells k in
      let h = c.undo.ensures.kept (moved w c.loop.self.now) i.0 in
      let m = moved_as w _ _ (sym h.time) h in
      let lt : c.loop.counter < c.args.most = omega (arith, c.min-end.ensures, c.loop-test.true) in
      let pos : 0 < c.loop.self.now = omega (arith, c.min-end.ensures, c.loop-test.true, c.loop.invariant.0) in (
        m,
        back_more w bs c.loop.self.now c.args.most c.loop.counter i.1 c.undo.new.self.now lt pos (sym h.time)
            (λ up. sym (tells c.undo.new.self c.stops.result c.undo.new.self.now up m (record { shown = _; shows = refl; says = record { met = c.stops.ensures } })) ∙ c.if-stops.false),
      ),
)

pub returns : goal.returns
returns g c =
    record {
      kept = λ w bs tells k.
          let i = c.loop.invariant.1 w bs tells k in
          moved_as w _ _
          (⊎_elim
          (λ (l : c.loop.counter < c.args.most).
          let z : c.loop.self.now ≡ 0 = omega (arith, l, c.min-end.ensures, c.loop-test.false, c.loop.invariant.0) in
          back_zero w bs c.loop.self.now c.args.most c.loop.counter i.1 z)
          (λ (l : c.args.most ≤ c.loop.counter). back_done w bs c.loop.self.now c.args.most c.loop.counter i.1 l)
          (cases_lt c.loop.counter c.args.most)) i.0;
      time = λ _. omega (arith, c.min-end.ensures, c.loop-test.false, c.loop.invariant.0);
    }
