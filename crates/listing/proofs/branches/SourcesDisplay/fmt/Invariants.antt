use denote.Text.{Utf8}
use denote.Shadow.{shadow}
use Rattle.std.proofs.Common.{drop}
use Rattle.command.specs.Codes.{codes}
use Rattle.listing.specs.Branches.{sources_on, sources_text}
use Rattle.listing.proofs.Writing.{Left}
use Rattle.listing.proofs.branches.SourcesDisplay.fmt.Given as goal

abbrev pub invariant-loop-place : goal.invariant-loop-place
invariant-loop-place g l =
    shadow (Utf8 l.separator)
    × Left g.W.Write.write_str_gives l.initial.f (sources_text l.self.branch (codes l.self.program.now)) l.f
    (sources_on l.self.branch l.place-counter l.separator (codes (drop l.place-counter l.self.program.now)))
