use Rattle.std.proofs.Common.{ap, ◌∙◌, rules}
use Rattle.std.proofs.lemmas.List.{take_all}
use Rattle.command.specs.Codes.{codes}
use Rattle.assembler.specs.Listing.{listing}
use Rattle.assembler.specs.Source.{assembled}
use Rattle.assembler.proofs.Returned.{listed_back}
use Rattle.assembler.proofs.Listings.{listing_more}
use Rattle.assembler.proofs.listing.disassemble.Goals as goal

pub loop-instr-preserved : goal.loop-instr-preserved
loop-instr-preserved c =
    let e = listing_more c.args.program.now c.loop-instr.instr-index c.instr-item.result c.loop-instr-test.true c.instr-item.is in
    let i = c.loop-instr.invariant in
    let f = c.in_ok-push_str.ensures.bytes in
    let v = c.as_str.ensures.value in
    let m = c.in_ok-line.ensures.ok in
    search rules

pub returns : goal.returns
returns c =
    let e = c.loop-instr.invariant ∙ ap (λ u. listing (codes u)) (take_all c.loop-instr.instr-index c.args.program.now c.loop-instr-test.false) in
    record { text = e; again = λ h. ap assembled e ∙ listed_back (codes c.args.program.now) h }
