use Rattle.std.proofs.Common.{◌+◌, ◌<◌, ◌≤◌, length, sym, ap, ◌∙◌, arith}
use Rattle.command.specs.Plain.{give}
use Rattle.trial.specs.declared.turns.Refusal.TheVariants.{Full}
use Rattle.trial.proofs.Moves.{given_more}
use Rattle.trial.proofs.Turning.{done_as, refused_with, turn_give, turn_give_no, give_free}
use Rattle.trial.proofs.debugger.Trial.give.Goals as goal

pub returns-then-saturating_add-gt-MOST_FED : goal.returns-then-saturating_add-gt-MOST_FED
returns-then-saturating_add-gt-MOST_FED c w k =
    let vs = c.args.numbers.now in
    let l : 65536 < length w.ins + length vs = omega (arith, ap length k.ins, c.len.ensures, c.saturating_add.ensures, c.if-saturating_add-gt-MOST_FED.true, c.args.self.now.fed.ok.0) in
    record {
      answers = refused_with _ w (give vs) c.free.result.answer Full c.free.ensures.answer (turn_give_no w vs l) k;
      granted = c.free.ensures.granted ∙ sym (give_free w vs _);
    }

pub returns : goal.returns
returns c w k =
    let vs = c.args.numbers.now in
    let l : length w.ins + length vs ≤ 65536 = omega (arith, ap length k.ins, c.len.ensures, c.saturating_add.ensures, c.if-saturating_add-gt-MOST_FED.false, c.args.self.now.fed.ok.0) in
    record {
      answers = done_as _ w (give vs) c.free-2.result.answer _ c.free-2.ensures.answer (turn_give w vs l) (given_more _ _ _ _ _ _ _ w k vs _ c.in_ok-extend_from_slice.ensures.items);
      granted = c.free-2.ensures.granted ∙ sym (give_free w vs _);
    }
