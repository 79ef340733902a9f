use Rattle.std.proofs.Common.{◌≡◌, suc, ◌+◌, ◌-◌, ◌%◌, [], length, sym, refl, ap, arith}
use Rattle.machine.specs.Promise.{most_turns}
use Rattle.driver.specs.Says.{limit, Went}
use Rattle.driver.proofs.Turns.{begins, so_far, follows_meant, follows_sound, turn_on, turn_ends, runs_out}
use Rattle.driver.proofs.debugger.carry_out.Goals as goal

pub loop-init : goal.loop-init
loop-init g c = (tt, λ t l q. begins _ t _ _ _ l q)

pub returns-in-Err : goal.returns-in-Err
unfolding Went
returns-in-Err g c t l q one =
    let e : most_turns - c.loop.counter ≡ suc (most_turns - (c.loop.counter + 1)) = omega (arith, c.loop-test.true) in
    let long : length c.loop.memory ≡ 32000 = omega (arith, c.loop.auto.memory, c.requires.cells) in
    rw c.answer.ensures
    (turn_ends _ c.loop.memory _ _ _ _ _ _ _ _ _ _ (most_turns - (c.loop.counter + 1)) _ _ long c.tell-told.ensures.memory c.tell-told.ensures.told c.in-Err.ending (rw c.whole.ensures at c.in-Err.ensures.done)
    (so_far _ _ _ _ e refl refl (c.loop.invariant.1 t l q)) one)

pub loop-preserved : goal.loop-preserved
loop-preserved g c =
    let e : most_turns - c.loop.counter ≡ suc (most_turns - (c.loop.counter + 1)) = omega (arith, c.loop-test.true) in
    let long : length c.loop.memory ≡ 32000 = omega (arith, c.loop.auto.memory, c.requires.cells) in
    let next = c.in-Ok.next in
    let k = c.in-Ok.ensures in (
      follows_sound next 4096 k.sound,
      λ t l q.
          so_far _ _ _ _ refl (follows_meant next 4096 [] c.args.text.now c.carry.new.seen k.sound) (ap (λ x. (c.loop.steps + x) % limit) (sym c.steps-steps.ensures))
          (turn_on _ c.loop.memory _ _ _ _ _ _ _ _ _ _ _ _ _ long c.tell-told.ensures.memory c.tell-told.ensures.told next (rw c.whole.ensures at k.done)
          (so_far _ _ _ _ e refl refl (c.loop.invariant.1 t l q))),
    )

pub returns : goal.returns
unfolding Went
returns g c t l q one =
    let e : most_turns - c.loop.counter ≡ 0 = omega (arith, c.loop-test.false) in runs_out _ _ _ _ _ _ _ e (c.loop.invariant.1 t l q)
