use Rattle.std.proofs.Common.{◌≡◌, ℕ, suc, ◌+◌, ◌-◌, [], ◌∷◌, ◌++◌, ◌∙◌, subst, arith}
use Rattle.command.specs.Reader.{counted}
use Rattle.command.specs.Taken.{left_in}
use Rattle.command.specs.Told.{listed}
use Rattle.command.proofs.Texts.{takes_none}
use Rattle.command.proofs.Many.{Left, left_start, left_more, left_none, left_end, got_listed, counted_at, counted_length}
use Rattle.command.proofs.reading.cursor.Cursor.list.Goals as goal

pub loop-init : goal.loop-init
loop-init g c =
    let n = c.in_ok-count.count in
    let z : n ≡ n - 0 = omega arith in
    let t = left_in g.B.Byte.text c.up_to.new.self in
    ([], subst (λ (k : ℕ). Left g.T.Spelled.reader n t k [] t) z (left_start g.T.Spelled.reader n t))

pub returns-in_err-take-clause-takes : goal.returns-in_err-take-clause-takes
returns-in_err-take-clause-takes g c =
    let text = g.B.Byte.text in
    let r = g.T.Spelled.reader in
    let t = left_in text c.args.self.now in
    let e : c.in_ok-count.count - c.loop.counter ≡ suc (c.in_ok-count.count - (c.loop.counter + 1)) = omega arith in
    takes_none (λ (n : ℕ). listed (counted 4096 r t)) (counted 4096 r t) c.from_residual-in_err-take.result (left_in text c.take.new.cursor) c.from_residual-in_err-take.ensures
    (counted_at r 4096 t c.in_ok-count.ensures.takes ∙ left_none r _ _ _ _ c.loop.invariant.0 (left_in text c.loop.self) e c.loop.invariant.1 c.in_err-take.ensures)

pub loop-preserved : goal.loop-preserved
loop-preserved g c =
    let e : c.in_ok-count.count - c.loop.counter ≡ suc (c.in_ok-count.count - (c.loop.counter + 1)) = omega arith in
    (c.loop.invariant.0 ++ _ ∷ [], left_more g.T.Spelled.reader _ _ _ _ c.loop.invariant.0 (left_in g.B.Byte.text c.loop.self) e c.loop.invariant.1 c.in_ok-take.ensures)

pub returns-clause-takes : goal.returns-clause-takes
returns-clause-takes g c =
    let r = g.T.Spelled.reader in
    got_listed
    (counted_at r 4096 (left_in g.B.Byte.text c.args.self.now) c.in_ok-count.ensures.takes
    ∙ left_end r _ _ _ c.loop.invariant.0 (left_in g.B.Byte.text c.loop.self) (omega arith) c.loop.invariant.1)

pub returns-clause-count : goal.returns-clause-count
returns-clause-count g c =
    let r = g.T.Spelled.reader in
    counted_length r 4096 (left_in g.B.Byte.text c.args.self.now) c.in_ok-count.ensures.takes (left_in g.B.Byte.text c.loop.self)
    (left_end r _ _ _ c.loop.invariant.0 (left_in g.B.Byte.text c.loop.self) (omega arith) c.loop.invariant.1)
