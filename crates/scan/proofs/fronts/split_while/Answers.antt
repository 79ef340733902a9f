use Rattle.std.proofs.Common.{rules, not, tests}
use Rattle.std.proofs.lemmas.Iterator.{YieldsList-from_slice}
use Rattle.std.proofs.lemmas.Iterator.Search.{position_from_yields_List}
use Rattle.scan.proofs.Ends.{ends}
use Rattle.scan.proofs.fronts.split_while.Goals as goal

pub returns-clause-front : goal.returns-clause-front
returns-clause-front g c p h =
    let e = ends p c.args.text.now c.position-end.result (position_from_yields_List (λ b. not (p b)) _ _ c.position-end.result c.position-end.ensures.ran (YieldsList-from_slice _ c.iter.ensures.rest) (λ x b q k. search (rules, tests, h x.now))) in
    search rules

pub returns-clause-rest : goal.returns-clause-rest
returns-clause-rest g c p h =
    let e = ends p c.args.text.now c.position-end.result (position_from_yields_List (λ b. not (p b)) _ _ c.position-end.result c.position-end.ensures.ran (YieldsList-from_slice _ c.iter.ensures.rest) (λ x b q k. search (rules, tests, h x.now))) in
    search rules
