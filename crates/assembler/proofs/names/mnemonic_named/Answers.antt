use Rattle.std.proofs.Common.{rules, tests, sym, ◌∙◌}
use Rattle.std.specs.Str.{bytes_eq}
use Rattle.std.proofs.lemmas.Iterator.{YieldsList-from_slice}
use Rattle.std.proofs.lemmas.Iterator.Search.{find_from_yields_List}
use Rattle.assembler.specs.declared.names.Mnemonic.{Mnemonic}
use Rattle.assembler.specs.Names.{mnemonic_name}
use Rattle.assembler.proofs.Tables.{found_among, mapped_itself, all_mnemonics}
use Rattle.assembler.proofs.names.mnemonic_named.Goals as goal

pub returns : goal.returns
returns c =
    let f = find_from_yields_List (λ (x : Mnemonic). bytes_eq c.args.word.now (mnemonic_name x)) _ _ c.find-named.result c.find-named.ensures.ran (YieldsList-from_slice all_mnemonics c.iter.ensures.rest) (λ x b q k. search (rules, tests)) in
    let e = c.copied.ensures ∙ f in
    e ∙ (sym (mapped_itself _) ∙ found_among mnemonic_name (λ (x : Mnemonic). x) c.args.word.now all_mnemonics)
