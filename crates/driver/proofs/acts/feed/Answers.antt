use Rattle.std.proofs.Common.{◌≡◌, length, Ok, Err, ◌∙◌, arith}
use Rattle.machine.specs.declared.acts.Told.TheVariants.{Feeds}
use Rattle.driver.proofs.Serving.{at_exit, feeds_few, feeds_words, fed}
use Rattle.driver.proofs.Seen.{blank_length, words_all, words_wide, each_same}
use Rattle.driver.proofs.acts.feed.Goals as goal

pub returns-in_err-numbers-clause-done : goal.returns-in_err-numbers-clause-done
returns-in_err-numbers-clause-done g c = λ seen. feeds_few _ _ _ _ seen c.args.count _ c.in_err-numbers.ensures.1

pub returns-in_err-read_back-clause-done : goal.returns-in_err-read_back-clause-done
returns-in_err-read_back-clause-done g c =
    let k = c.in_ok-numbers.ensures in
    let z = blank_length c.in_ok-numbers.field-0 4096 0 k.1 in
    λ seen. feeds_words _ _ _ _ seen c.args.count _ _ (z ∙ k.0) (words_wide _ c.args.row.now (omega (arith, z, k.1)) c.in_err-read_back.ensures.1)

pub returns-in_err-feed-clause-done : goal.returns-in_err-feed-clause-done
returns-in_err-feed-clause-done g c =
    let k = c.in_ok-numbers.ensures in
    let z = blank_length c.in_ok-numbers.field-0 4096 0 k.1 in
    let xs = c.read_back.new.slots in
    let n : length xs ≡ c.args.count = c.read_back.auto.slots ∙ (z ∙ k.0) in
    let w = words_all _ c.args.row.now (omega (arith, z, k.1)) c.in_ok-read_back.ensures.1 in
    λ seen.
    at_exit _ _ _ _ seen (Feeds c.args.count) _ c.from_residual-in_err-feed.ensures.1
    (fed _ _ _ _ seen c.args.count xs n (rw (n, ← k.0, ← z) (w ∙ each_same xs)) {A = Unit {0}} (Err c.in_err-feed.field-0.0) c.in_err-feed.ensures)

pub returns-clause-done : goal.returns-clause-done
returns-clause-done g c =
    let k = c.in_ok-numbers.ensures in
    let z = blank_length c.in_ok-numbers.field-0 4096 0 k.1 in
    let xs = c.read_back.new.slots in
    let n : length xs ≡ c.args.count = c.read_back.auto.slots ∙ (z ∙ k.0) in
    let w = words_all _ c.args.row.now (omega (arith, z, k.1)) c.in_ok-read_back.ensures.1 in
    λ seen. fed _ _ _ _ seen c.args.count xs n (rw (n, ← k.0, ← z) (w ∙ each_same xs)) {A = Unit {0}} (Ok tt) c.in_ok-feed.ensures
