use Rattle.std.proofs.Common.{◌≡◌, ◌+◌, length, get_or, refl, ap, ◌∙◌, subst, arith}
use Rattle.target.specs.Acts.{Does, TellsWords}
use Rattle.target.specs.Run.{looks_words, saw}
use Rattle.target.proofs.Doing.{refuses_words}
use Rattle.processor.specs.Holding.{Held}
use Rattle.processor.proofs.Faults.{refused}
use Rattle.processor.proofs.Promises.{words_promise}
use Rattle.processor.proofs.acting.EmulatorProcessor.words.Goals as goal

pub returns-in_err-few : goal.returns-in_err-few
returns-in_err-few c =
    let e = c.args.self.now in
    let h = c.in_err-few.ensures in
    refused c.from_residual.result _ _ (TellsWords c.args.from c.args.seen.now c.args.seen.now (Held e)) h.0 c.from_residual.ensures.1
    (h.1, refl, refuses_words (Held e) c.args.from (length c.args.seen.now) h.1)

pub returns : goal.returns
returns c =
    let e = c.args.self.now in
    let row = c.tell_words.new.seen in
    let n : length row ≡ length c.args.seen.now = omega arith in (
      omega arith,
      subst (λ k. Does (looks_words c.args.from k) (saw row) 0 (Held e) (Held e)) n
          (words_promise e c.args.from row (omega arith) (λ i h. c.tell_words.ensures i h ∙ ap (λ z. get_or z (c.args.from + i) 0) c.as_slice.ensures.value)),
    )
