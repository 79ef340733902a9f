use Rattle.std.proofs.Common.{◌≡◌, ℕ, ◌+◌, ◌<◌, min, true, false, ltb, ◌≢◌, List, length, get_or, sym, ap, ◌∙◌, arith, get_or-set_other, get_or-set_same, below_more}
use Rattle.std.proofs.lemmas.Bool.{ltb-true, ltb-false}
use Rattle.command.proofs.Picks.{by_test}
use Rattle.processor.proofs.Defaults.{default_past}
use Rattle.processor.proofs.telling.tell_words.Goals as goal

-- a place past all numbers is past the words too
saturated : (xs : List ℕ) (a k : ℕ) → length xs ≡ 65536 → k ≡ min a 18446744073709551615 → get_or xs k 0 ≡ get_or xs a 0
saturated xs a k n e =
    by_test (ltb a 18446744073709551615)
    (λ (b : ltb a 18446744073709551615 ≡ true). let h = ltb-true a 18446744073709551615 b in let q : k ≡ a = omega arith in ap (λ z. get_or xs z 0) q)
    (λ (b : ltb a 18446744073709551615 ≡ false).
    let h = ltb-false a 18446744073709551615 b in
    default_past xs 0 k (omega arith) ∙ sym (default_past xs 0 a (omega arith)))

pub loop-i-preserved : goal.loop-i-preserved
loop-i-preserved c =
    below_more _ _
    (λ k h. let ne : k ≢ c.loop-i.i = omega arith in get_or-set_other c.loop-i.seen c.loop-i.i k c.word_or_zero.result 0 ne ∙ c.loop-i.invariant k h)
    (let lt : c.loop-i.i < length c.loop-i.seen = omega arith in
    get_or-set_same c.loop-i.seen c.loop-i.i c.word_or_zero.result 0 lt ∙ c.word_or_zero.ensures
    ∙ saturated c.args.items.now (c.args.from + c.loop-i.i) c.saturating_add.result c.requires c.saturating_add.ensures)
