use Rattle.std.proofs.Common.{◌-◌, refl}
use Rattle.command.specs.Plain.{changer}
use Rattle.trial.specs.declared.turns.Refusal.TheVariants.{NoSuch}
use Rattle.trial.proofs.Turning.{moved_there, refused_with, turn_changer, turn_none}
use Rattle.trial.proofs.debugger.Trial.changer.Goals as goal

pub returns-in_default : goal.returns-in_default
returns-in_default c w k = refused_with _ w (changer c.args.place) _ NoSuch refl (turn_none w c.args.place (c.in_default.ensures w k)) k

pub returns : goal.returns
returns c w k =
    let u = w.now - c.in-Some.steps in
    moved_there _ w (changer c.args.place) _ u (turn_changer w c.args.place u (c.in-Some.ensures w k)) c.in_ok-time_row.ensures (c.back.ensures.kept w k)
