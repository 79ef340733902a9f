use Rattle.std.proofs.Common.{◌≡◌, ℕ, suc, ◌+◌, ◌-◌, ◌<◌, List, [], length, take, sym, ap, ◌∙◌, subst, arith, length-set, length-take-le}
use Rattle.std.proofs.lemmas.List.{take-append-le}
use Rattle.command.specs.Machine.{each}
use Rattle.command.specs.Plain.{Test as Asked}
use Rattle.command.specs.Breaks.{test_of}
use Rattle.command.specs.declared.breaks.Test.{Test}
use Rattle.command.specs.Reader.{got, so_many, test}
use Rattle.command.specs.Taken.{left_in}
use Rattle.command.proofs.Texts.{takes_none}
use Rattle.command.proofs.Many.{Left, left_start, left_more, left_none, left_end, each_set}
use Rattle.command.proofs.reading.cursor.Cursor.tests.Goals as goal

pub loop-test-init : goal.loop-test-init
loop-test-init g c =
    let n = c.args.count in
    let z : n ≡ n - 0 = omega arith in
    let t = left_in g.B.Byte.text c.args.self.now in
    (length-take-le n _ c.requires, subst (λ (k : ℕ). Left test n t k [] t) z (left_start test n t))

pub returns-in_err-test : goal.returns-in_err-test
returns-in_err-test g c =
    let text = g.B.Byte.text in
    let n = c.args.count in
    let i : c.loop-test.test-index < n = omega (arith, c.loop-test-test.true, c.loop-test.invariant.0) in
    let e : n - c.loop-test.test-index ≡ suc (n - (c.loop-test.test-index + 1)) = omega arith in
    takes_none (λ (ts : List Test). each test_of (take n ts)) (so_many test n (left_in text c.args.self.now)) c.from_residual.result (left_in text c.test.new.self) c.from_residual.ensures
    (left_none test _ _ _ _ _ (left_in text c.loop-test.self) e c.loop-test.invariant.1 c.in_err-test.ensures)

pub loop-test-preserved : goal.loop-test-preserved
loop-test-preserved g c =
    let text = g.B.Byte.text in
    let n = c.args.count in
    let k = c.loop-test.test-index in
    let ts = c.loop-test.test-items in
    let i : k < n = omega (arith, c.loop-test-test.true, c.loop-test.invariant.0) in
    let few : k < length ts = omega (arith, c.loop-test.invariant.0) in
    let e : n - k ≡ suc (n - (k + 1)) = omega arith in
    let s = each_set test_of k ts c.in_ok-test.field-0 few in (
      simp length-set c.loop-test.invariant.0,
      subst (λ (l : List Asked). Left test n (left_in text c.args.self.now) (n - (k + 1)) l (left_in text c.test.new.self)) (sym s)
          (left_more test _ _ _ _ _ (left_in text c.loop-test.self) e c.loop-test.invariant.1 c.in_ok-test.ensures),
    )

pub returns : goal.returns
returns g c =
    let n = c.args.count in
    let k = c.loop-test.test-index in
    let ts = c.loop-test.test-items in
    let u = left_in g.B.Byte.text c.loop-test.self in
    let long = c.loop-test.invariant.0 in
    let i : k ≡ n = omega (arith, c.loop-test-test.false, c.loop-test.auto.test-index-end, c.loop-test.auto.test-items) in
    left_end test _ _ _ _ u (omega arith) c.loop-test.invariant.1
    ∙ ap (λ (l : List Test). got (each test_of l) u) (ap (λ (k : ℕ). take k ts) i ∙ sym (take-append-le n ts _ (omega arith)))
