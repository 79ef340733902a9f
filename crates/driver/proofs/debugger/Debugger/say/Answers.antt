use Rattle.std.proofs.Common.{◌≡◌, length, sym, arith}
use Rattle.std.proofs.lemmas.List.{take_at}
use Rattle.driver.proofs.Promised.{answered, went_same}
use Rattle.driver.proofs.debugger.Debugger.say.Goals as goal

pub returns : goal.returns
returns g c =
    let m₁ = c.carry_out.new.memory in
    let l : length m₁ ≡ c.args.self.now.memory.len = omega (arith, c.carry_out.auto.memory, c.as_mut_slice.ensures.len) in
    let w = went_same _ _ _ _ _ _ c.as_mut_slice.ensures.value c.clear.ensures (sym (take_at m₁ _ _ l)) c.carry_out.ensures in
    record { went = w; answered = λ left known plain s. answered left known plain _ _ _ _ _ _ _ _ w s }
