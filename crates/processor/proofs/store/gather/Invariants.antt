use Rattle.std.proofs.Common.{◌≡◌, ◌+◌, ◌≤◌, take, vec_items, vec_len, vec_capacity}
use Rattle.processor.specs.Pages.{marked, Gathered}
use Rattle.processor.proofs.store.gather.Given as goal

abbrev pub invariant-loop-page : goal.invariant-loop-page
invariant-loop-page l = (73728 ≤ vec_capacity l.free) × (vec_len l.free + marked (take l.page l.used) ≡ l.page) × Gathered l.used l.page (vec_items l.free)
