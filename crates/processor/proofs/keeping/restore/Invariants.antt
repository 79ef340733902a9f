use Rattle.std.proofs.Common.{◌≡◌, ℕ, ◌*◌, ◌<◌, ◌≤◌, get_or}
use Rattle.processor.specs.Held.{held_word}
use Rattle.processor.proofs.keeping.restore.Given as goal

abbrev pub invariant-loop-p : goal.invariant-loop-p
invariant-loop-p l =
    ((a : ℕ) → a < l.p * 256 → get_or l.items a 0 ≡ held_word l.pages l.slot a)
    × ((a : ℕ) → l.p * 256 ≤ a → get_or l.items a 0 ≡ get_or l.initial.items a 0)
