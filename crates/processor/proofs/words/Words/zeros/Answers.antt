use Rattle.std.proofs.Common.{◌≡◌, ℕ, length, vec_items, ap, ◌∙◌, arith}
use lib.ListN.{length-replicate}
use Rattle.std.proofs.lemmas.Result.{IfOk-from_err}
use Rattle.processor.specs.Held.{held_word}
use Rattle.processor.proofs.Defaults.{defaults}
use Rattle.processor.proofs.Flushes.{dirty_clean}
use Rattle.processor.proofs.words.Words.zeros.Goals as goal

pub returns-in_err-pages : goal.returns-in_err-pages
returns-in_err-pages c = IfOk-from_err _ _ c.from_residual-in_err-pages.ensures.0

pub invariant_of-result : goal.invariant_of-result
invariant_of-result c =
    let v = c.in_ok-items.items in
    let e = c.in_ok-items.ensures.items_if_clones_equal (λ y e. e) in
    let n : length (vec_items v) ≡ 65536 = ap length e ∙ length-replicate {A = ℕ} 65536 0 in
    record { full = omega (arith, v.ok.0); clean = dirty_clean (vec_items v) (held_word c.in_ok-pages.pages) }

pub returns : goal.returns
returns c = defaults 65536 _ 0 (c.in_ok-items.ensures.items_if_clones_equal (λ y e. e))
