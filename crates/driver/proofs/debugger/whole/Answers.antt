use Rattle.std.proofs.lemmas.Option.{MatchOption-at_some}
use Rattle.driver.proofs.debugger.whole.Goals as goal

pub returns : goal.returns
returns c = (MatchOption-at_some _ _ _ c.unwrap.ensures c.as_array.ensures.cases).same
