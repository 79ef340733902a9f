use Rattle.std.proofs.Common.{rules, tests, ap, ◌∙◌}
use Rattle.std.specs.Option.{option_map}
use Rattle.std.specs.Str.{bytes_eq}
use Rattle.std.proofs.lemmas.Iterator.{YieldsList-from_slice}
use Rattle.std.proofs.lemmas.Iterator.Search.{find_from_yields_List}
use Rattle.command.specs.Codes.{comparison_number}
use Rattle.command.specs.declared.code.Comparison.{Comparison}
use Rattle.assembler.specs.Names.{comparison_name}
use Rattle.assembler.proofs.Tables.{found_among, all_comparisons}
use Rattle.assembler.proofs.names.comparison_named.Goals as goal

pub returns : goal.returns
returns c =
    let f = find_from_yields_List (λ (x : Comparison). bytes_eq c.args.word.now (comparison_name (comparison_number x))) _ _ c.find-named.result c.find-named.ensures.ran (YieldsList-from_slice all_comparisons c.iter.ensures.rest) (λ x b q k. search (rules, tests)) in
    let e = c.copied.ensures ∙ f in
    ap (option_map comparison_number) e ∙ found_among (λ (x : Comparison). comparison_name (comparison_number x)) comparison_number c.args.word.now all_comparisons
