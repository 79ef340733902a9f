use Rattle.std.proofs.Common.{eqb, rules, tests}
use Rattle.std.proofs.lemmas.Iterator.{YieldsList-from_slice}
use Rattle.std.proofs.lemmas.Iterator.Search.{find_from_yields_List}
use Rattle.assembler.specs.declared.labels.Label.{Label}
use Rattle.listing.proofs.Turns.{name_is}
use Rattle.listing.proofs.labels.label_of.Goals as goal

pub returns-in_err-found : goal.returns-in_err-found
returns-in_err-found c =
    let k = c.args.place in
    let h = name_is k c.args.labels.now c.find.result (find_from_yields_List (λ (l : Label). eqb l.place k) _ _ c.find.result c.find.ensures.ran (YieldsList-from_slice c.args.labels.now c.iter.ensures.rest) (λ x b q k. search (rules, tests))) in
    search rules

pub returns : goal.returns
returns c =
    let k = c.args.place in
    let h = name_is k c.args.labels.now c.find.result (find_from_yields_List (λ (l : Label). eqb l.place k) _ _ c.find.result c.find.ensures.ran (YieldsList-from_slice c.args.labels.now c.iter.ensures.rest) (λ x b q k. search (rules, tests))) in
    search rules
