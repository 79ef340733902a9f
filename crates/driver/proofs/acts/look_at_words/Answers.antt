use Rattle.std.proofs.Common.{◌≡◌, length, take, ◌∙◌, arith}
use Rattle.std.proofs.lemmas.List.{take_at}
use Rattle.machine.specs.declared.acts.Told.TheVariants.{Looks}
use Rattle.machine.specs.declared.acts.Look.TheVariants.{Words}
use Rattle.driver.proofs.Serving.{passed_on, saw_words, words_few}
use Rattle.driver.proofs.Seen.{front_length}
use Rattle.driver.proofs.acts.look_at_words.Goals as goal

pub returns-in_err-count-clause-done : goal.returns-in_err-count-clause-done
returns-in_err-count-clause-done g c = let k = c.in_err-count.ensures in passed_on _ _ _ _ _ (Looks Words) _ k.0 c.from_residual.ensures.1 (words_few _ _ _ _ _ k.1 (λ t l. l))

pub returns-clause-done : goal.returns-clause-done
returns-clause-done g c =
    let n = c.in_ok-count.count in
    let k = c.in_ok-count.ensures in
    let l : length (take n c.args.seen.now) ≡ n = front_length n c.args.seen.now (omega (arith, k.1)) in
    saw_words _ _ _ _ _ _ n c.words.new.seen (l ∙ k.0) (take_at c.words.new.seen _ _ (omega (arith, l))) c.in_ok-words.ensures.1
