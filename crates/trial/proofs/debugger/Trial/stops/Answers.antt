use Rattle.std.proofs.Common.{rules, ◌-◌, vec_items, sym, ◌∙◌, arith}
use Rattle.std.proofs.lemmas.Iterator.{YieldsList-from_slice}
use Rattle.std.proofs.lemmas.Iterator.Search.{any_from_yields_List}
use Rattle.command.specs.Plain.{holds, at_time}
use Rattle.trial.specs.Kept.{break_numbered}
use Rattle.trial.proofs.Moves.{came_here, asked}
use Rattle.trial.proofs.Sieves.{any_is}
use Rattle.trial.proofs.debugger.Trial.stops.Goals as goal
use borrow.Author.Tests.{tests}

pub returns : goal.returns
returns c w k pos =
    let t = c.args.self.now.now in
    let p = holds (at_time w (t - 1)) (at_time w t) in
    let m = came_here _ _ _ _ _ _ _ w k c.index-moment.result.now c.index-moment.ensures (omega (arith, k.time, pos)) in
    any_from_yields_List (λ b. p (break_numbered b)) _ _ _ c.any.ensures.ran (YieldsList-from_slice (vec_items c.args.self.now.breaks) cc) (λ x b q h. search (rules, tests))
    ∙ any_is p break_numbered (vec_items c.args.self.now.breaks) ∙ sym (asked _ _ _ _ _ _ _ w k)
