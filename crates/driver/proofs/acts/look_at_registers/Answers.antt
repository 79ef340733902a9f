use Rattle.std.proofs.Common.{◌≡◌, ℕ, ◌<◌, length, get_or, ap, ◌∙◌, rules, arith}
use Rattle.command.proofs.Writes.{alike}
use Rattle.driver.proofs.Seen.{copied_front}
use Rattle.driver.proofs.Serving.{saw_regs}
use Rattle.driver.proofs.acts.look_at_registers.Goals as goal

pub returns-clause-done : goal.returns-clause-done
returns-clause-done g c =
    let xs = c.registers.result in
    let ys = c.map-registers.result in
    let same : (i : ℕ) → i < 16 → get_or ys i 0 ≡ get_or xs i 0 =
    λ i h. let f = (c.map-registers.ensures.items.at i 0 0 h).2 in search rules in
    let e : ys ≡ xs = alike xs ys 16 (omega arith) c.map-registers.ensures.items.long same in
    let n : length c.copy_from_slice.new.self ≡ 16 = ap length c.copy_from_slice.ensures.after ∙ c.map-registers.ensures.items.long in
    saw_regs _ _ _ _ _ xs (copied_front 16 _ _ _ n (c.copy_from_slice.ensures.after ∙ e)) c.registers.ensures
