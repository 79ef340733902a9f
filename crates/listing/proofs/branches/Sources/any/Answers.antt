use Rattle.std.proofs.Common.{◌∙◌, rules, tests}
use Rattle.std.proofs.lemmas.Iterator.{YieldsList-from_slice}
use Rattle.std.proofs.lemmas.Iterator.Search.{any_from_yields_List}
use Rattle.command.specs.Codes.{code}
use Rattle.command.specs.declared.code.Instr.{Instr}
use Rattle.listing.specs.Branches.{is_branch}
use Rattle.listing.proofs.Turns.{branch_any}
use Rattle.listing.proofs.branches.Sources.any.Goals as goal

pub returns : goal.returns
returns c =
    let b = c.args.self.now.branch in
    any_from_yields_List (λ (i : Instr). is_branch b (code i)) _ _ c.any.result c.any.ensures.ran (YieldsList-from_slice c.args.self.now.program.now c.iter.ensures.rest) (λ x b q k. search (rules, tests))
    ∙ branch_any b c.args.self.now.program.now
