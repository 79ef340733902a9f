use Rattle.std.proofs.Common.{rules, tests, ap, ◌∙◌}
use Rattle.std.specs.Option.{option_map}
use Rattle.std.specs.Str.{bytes_eq}
use Rattle.std.proofs.lemmas.Iterator.{YieldsList-from_slice}
use Rattle.std.proofs.lemmas.Iterator.Search.{find_from_yields_List}
use Rattle.command.specs.Codes.{op_number}
use Rattle.command.specs.declared.code.Op.{Op}
use Rattle.assembler.specs.Names.{op_name}
use Rattle.assembler.proofs.Tables.{found_among, all_ops}
use Rattle.assembler.proofs.names.op_named.Goals as goal

pub returns : goal.returns
returns c =
    let f = find_from_yields_List (λ (x : Op). bytes_eq c.args.word.now (op_name (op_number x))) _ _ c.find-named.result c.find-named.ensures.ran (YieldsList-from_slice all_ops c.iter.ensures.rest) (λ x b q k. search (rules, tests)) in
    let e = c.copied.ensures ∙ f in
    ap (option_map op_number) e ∙ found_among (λ (x : Op). op_name (op_number x)) op_number c.args.word.now all_ops
