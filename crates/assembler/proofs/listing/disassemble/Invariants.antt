use Rattle.std.proofs.Common.{◌≡◌, take, string_bytes}
use Rattle.command.specs.Codes.{codes}
use Rattle.assembler.specs.Listing.{listing}
use Rattle.assembler.proofs.listing.disassemble.Given as goal

abbrev pub invariant-loop-instr : goal.invariant-loop-instr
invariant-loop-instr l = string_bytes l.text ≡ listing (codes (take l.instr-index l.program))
