use Rattle.std.proofs.Common.{◌≡◌, ℕ, ◌-◌, min, length, drop, sym, ap, ◌∙◌, arith}
use Rattle.std.proofs.lemmas.List.{take_at}
use Rattle.target.specs.Run.{words_of}
use Rattle.session.proofs.Done.{words_by}
use Rattle.session.proofs.debugger.Session.words.Goals as goal

pub returns : goal.returns
returns g c t h =
    let like = g.P.Processor.like c.args.self.now.processor in
    let row = c.as_mut_slice.result.now in
    let seen = c.words.new.seen in
    let known = c.in_ok-words.ensures in
    let l : length seen ≡ c.in_ok-seen.seen.len = omega (arith, c.words.auto.seen, c.as_mut_slice.ensures.len) in
    let n : length row ≡ min c.args.count (65536 - c.args.from) = omega (arith, c.as_mut_slice.ensures.len, c.in_ok-seen.ensures.len) in
    take_at seen (drop (length seen) c.in_ok-seen.seen.items) c.in_ok-seen.seen.len l
    ∙ (sym (words_by like c.args.from (length row) seen known.0 known.1 t h) ∙ ap (λ (k : ℕ). words_of t c.args.from k) n)
