use Rattle.std.proofs.Common.{◌≡◌, ℕ, suc, ◌+◌, ◌-◌, ◌*◌, ◌^◌, ◌<◌, ◌≤◌, sym, ap, ◌∙◌, pow-suc, add-one, arith}
use native.Mathlib.Nat.{pow-le-pow_right}
use Rattle.command.specs.Reader.{bytes}
use Rattle.command.specs.Taken.{left_in, itself}
use Rattle.command.proofs.Texts.{takes_none, bytes_none, bytes_more, bytes_done}
use Rattle.command.proofs.reading.cursor.Cursor.number.Goals as goal

-- one byte more keeps it below the next power
next_power : (i n b : ℕ) → n < 256 ^ i → b < 256 → n * 256 + b < 256 ^ (i + 1)
next_power i n b h k = rw (add-one, pow-suc 256 i) (omega arith)

fits_eight : (i n b : ℕ) → i < 8 → n < 256 ^ i → b < 256 → n * 256 + b < 18446744073709551616
fits_eight i n b l h k =
    let p : 256 ^ (i + 1) ≤ 256 ^ 8 = pow-le-pow_right {n = 256} (omega arith) {i = i + 1} {j = 8} (omega arith) in
    omega (arith, next_power i n b h k)

pub returns-in_err-number : goal.returns-in_err-number
returns-in_err-number g c =
    let text = g.B.Byte.text in
    let e : 8 - c.loop.counter ≡ suc (7 - c.loop.counter) = omega arith in
    takes_none itself (bytes 8 0 (left_in text c.args.self.now)) c.from_residual.result (left_in text c.byte.new.self) c.from_residual.ensures
    (sym c.loop.invariant.0 ∙ (ap (λ k. bytes k c.loop.number (left_in text c.loop.self)) e ∙ bytes_none _ _ (left_in text c.loop.self) c.in_err-number.ensures.takes))

pub overflow_mul-number : goal.overflow_mul-number
overflow_mul-number g c = let h = fits_eight c.loop.counter c.loop.number 0 c.loop-test.true c.loop.invariant.1 (omega arith) in omega arith

pub overflow_add-number : goal.overflow_add-number
overflow_add-number g c =
    let h = fits_eight c.loop.counter c.loop.number c.in_ok-number.field-0 c.loop-test.true c.loop.invariant.1 c.in_ok-number.ensures.within in
    omega arith

pub loop-preserved : goal.loop-preserved
loop-preserved g c =
    let text = g.B.Byte.text in
    let e : 8 - c.loop.counter ≡ suc (8 - (c.loop.counter + 1)) = omega arith in (
      sym (bytes_more _ _ (left_in text c.loop.self) c.in_ok-number.ensures.takes) ∙ (ap (λ k. bytes k c.loop.number (left_in text c.loop.self)) (sym e) ∙ c.loop.invariant.0),
      next_power _ _ _ c.loop.invariant.1 c.in_ok-number.ensures.within,
    )

pub returns : goal.returns
returns g c = sym c.loop.invariant.0 ∙ bytes_done _ _ _ (omega arith)
