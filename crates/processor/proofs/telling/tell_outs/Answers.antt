use Rattle.std.proofs.Common.{◌≡◌, ℕ, ◌+◌, ◌-◌, ◌<◌, ◌≤◌, min, List, ◌∷◌, [], ◌++◌, length, get_or, take, drop, set, sym, ap, ◌∙◌, arith}
use Rattle.std.proofs.lemmas.List.{append_assoc, length-take, length-take-le, length-drop, set_at, take_more, drop_more, take_all, take_min, drop_min}
use Rattle.processor.specs.Telling.{told_outs}
use Rattle.processor.proofs.telling.tell_outs.Goals as goal

-- what the ends of its slices leave, as the code cuts them
abbrev cut : (log : List ℕ) (put from n : ℕ) → List ℕ
cut log put from n = take n (take (length (take put log) - from) (drop from (take put log)))

all_cut : (log : List ℕ) (put from n p f k : ℕ) → p ≡ min put (length log) → f ≡ min from (length (take p log))
    → k ≡ min n (length (take (length (take p log) - f) (drop f (take p log)))) → cut log p f k ≡ told_outs log put from n
all_cut log put from n p f k e g h =
    let x : take p log ≡ take put log = ap (λ z. take z log) e ∙ take_min put log in
    let y : drop f (take p log) ≡ drop from (take put log) = ap (λ z. drop z (take p log)) g ∙ drop_min from (take p log) ∙ ap (drop from) x in
    let z : take (length (take p log) - f) (drop f (take p log)) ≡ drop f (take p log) = take_all _ _ (omega (arith, length-drop f (take p log))) in
    ap (λ i. take i (take (length (take p log) - f) (drop f (take p log)))) h ∙ take_min n _ ∙ ap (take n) (z ∙ y)

-- one number more of what is told
row_more : (told old : List ℕ) (i v : ℕ) → i < length told → i < length old → v ≡ get_or told i 0 → set (take i told ++ drop i old) i v ≡ take (i + 1) told ++ drop (i + 1) old
row_more told old i v ht ho e =
    let le : i ≤ length told = omega arith in
    ap (λ z. set (take i told ++ z) i v) (drop_more old i 0 ho) ∙ set_at (take i told) (get_or old i 0) (drop (i + 1) old) v i (length-take-le i told le)
    ∙ ap (λ z. take i told ++ z ∷ drop (i + 1) old) e ∙ sym (append_assoc (take i told) (get_or told i 0 ∷ []) (drop (i + 1) old))
    ∙ ap (λ z. z ++ drop (i + 1) old) (sym (take_more told i 0 ht))

pub loop-i-preserved : goal.loop-i-preserved
loop-i-preserved c =
    let told = cut c.args.log.now c.min.result c.min-2.result c.min-3.result in
    let few = length-take c.min-3.result (take (length (take c.min.result c.args.log.now) - c.min-2.result) (drop c.min-2.result (take c.min.result c.args.log.now))) in
    ap (λ z. set z c.loop-i.i c.from.result) c.loop-i.invariant
    ∙ row_more told c.args.seen.now c.loop-i.i c.from.result c.loop-i-test.true (omega (arith, few, c.loop-i-test.true, c.min-3.ensures)) c.from.ensures

pub returns : goal.returns
returns c =
    let told = cut c.args.log.now c.min.result c.min-2.result c.min-3.result in
    let all = all_cut c.args.log.now c.args.put c.args.from (length c.args.seen.now) c.min.result c.min-2.result c.min-3.result c.min.ensures c.min-2.ensures c.min-3.ensures in
    let e : c.loop-i.i ≡ length told = omega arith in
    record {
      count = ap length all;
      row = c.loop-i.invariant ∙ ap (λ k. take k told ++ drop k c.args.seen.now) e ∙ ap (λ z. z ++ drop (length told) c.args.seen.now) (take_all _ told (omega arith) ∙ all);
    }
