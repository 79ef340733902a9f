use Rattle.std.proofs.Common.{rules, true, false, ◌+◌, take, ap}
use Rattle.std.proofs.lemmas.Iterator.{IsFirst-from_position}
use Rattle.std.proofs.lemmas.Iterator.Adapters.{YieldsList-from_rev_slice}
use Rattle.trial.proofs.Moves.{Changed, since}
use Rattle.trial.proofs.debugger.Trial.since_change.Goals as goal
use borrow.Author.Tests.{tests}

pub returns : goal.returns
returns c w k =
    let xs = take (c.args.self.now.now + 1) c.deref.result.now in
    since _ _ _ _ _ _ _ w k xs (ap (take (c.args.self.now.now + 1)) c.deref.ensures.value) c.args.place c.position.result
    (IsFirst-from_position _ _ c.position.result (Changed c.args.place true) (Changed c.args.place false) c.position.ensures.ran (YieldsList-from_rev_slice xs cc)
    (λ x q h. search (rules, tests)) (λ x q h. search (rules, tests)))
