use Rattle.std.proofs.Common.{◌≡◌, rules, tests, ap, ◌∙◌}
use Rattle.std.specs.Option.{option_map}
use Rattle.std.specs.Str.{bytes_eq}
use Rattle.std.proofs.lemmas.Iterator.{YieldsList-from_slice}
use Rattle.std.proofs.lemmas.Iterator.Search.{find_from_yields_List}
use Rattle.assembler.specs.declared.labels.Label.{Label}
use Rattle.assembler.specs.Instructions.{label_of}
use Rattle.assembler.proofs.Tables.{found_place}
use Rattle.assembler.proofs.labels.place_of.Goals as goal

pub returns : goal.returns
returns c =
    let e = find_from_yields_List (λ l. bytes_eq (label_of l).name c.args.name.now) _ _ c.find-named.result c.find-named.ensures.ran (YieldsList-from_slice c.args.labels.now cc) (λ x b q k. search (rules, tests)) in
    let m : c.map.result ≡ option_map (λ (l : Label). l.place) (option_map (λ x. x.now) c.find-named.result) = search (rules, c.map.ensures.cases) in
    m ∙ ap (option_map (λ (l : Label). l.place)) e ∙ found_place c.args.name.now c.args.labels.now
