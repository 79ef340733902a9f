use Rattle.std.proofs.Common.{◌≡◌, ◌++◌, vec_items, sym, ap, ◌∙◌, arith}
use Rattle.command.specs.Codes.{codes}
use Rattle.command.specs.Plain.{load}
use Rattle.trial.proofs.Moves.{begun}
use Rattle.trial.proofs.Turning.{done_as, turn_load, load_free}
use Rattle.trial.proofs.debugger.Trial.load.Goals as goal

pub returns : goal.returns
returns c w k =
    let is = c.args.program.now in
    let e : vec_items c.extend_from_slice.new.self ≡ is = c.in_ok-extend_from_slice.ensures.items ∙ ap (λ z. z ++ is) c.clear.ensures.items in
    let z : c.back.new.self.now ≡ 0 = omega (arith, c.back.ensures.time) in
    let h = begun _ _ _ _ _ _ _ _ (c.back.ensures.kept w k) (codes is) (vec_items c.extend_from_slice.new.self) _ _ _ z (ap codes (sym e)) c.clear-2.ensures.items c.truncate.ensures.items c.clear-3.ensures.items in
    record {
      short = λ _. record {
        answers = done_as _ w (load (codes is)) c.free-2.result.answer _ c.free-2.ensures.answer (turn_load w (codes is)) h;
        granted = c.free-2.ensures.granted ∙ sym (load_free w (codes is) _);
      };
      long = λ l. absurd (omega (arith, l, c.if-program-gt-MOST_INSTRS.false));
    }
