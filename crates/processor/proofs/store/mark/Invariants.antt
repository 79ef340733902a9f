use Rattle.std.proofs.Common.{◌≡◌, ℕ, ◌<◌, ◌≤◌, true, false, get_or}
use Rattle.processor.specs.Pages.{marked}
use Rattle.processor.proofs.store.mark.Given as goal

abbrev pub invariant-loop-page : goal.invariant-loop-page
invariant-loop-page l = (marked l.used ≤ l.page-index) × ((j : ℕ) → j < l.page-index → get_or l.used (get_or l.tables j 0) false ≡ true)
