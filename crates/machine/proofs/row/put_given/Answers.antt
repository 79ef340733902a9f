use Rattle.std.proofs.Common.{drop, is_some, refl, ap, arith}
use Rattle.std.proofs.lemmas.List.{length-take-le}
use Rattle.command.specs.Told.{numbers_in}
use Rattle.machine.proofs.Texts.{give_text, give_few, word_taken, number_placed, numbers_placed}
use Rattle.machine.proofs.row.put_given.Goals as goal

pub slice_bounds-cursor-count : goal.slice_bounds-cursor-count
slice_bounds-cursor-count c = let t = c.args.text.now in let h = (give_text t (numbers_in (drop 1 t)) c.requires.says).0 in omega arith

pub slice_bounds-cursor-start : goal.slice_bounds-cursor-start
slice_bounds-cursor-start c = let t = c.args.text.now in let h = (give_text t (numbers_in (drop 1 t)) c.requires.says).0 in omega arith

pub slice_bounds-place-items-end : goal.slice_bounds-place-items-end
slice_bounds-place-items-end c = let t = c.args.text.now in let h = give_few t (numbers_in (drop 1 t)) c.requires.says in omega (arith, c.requires.counts)

pub loop-place-init : goal.loop-place-init
loop-place-init c = let t = c.args.text.now in ((give_text t (numbers_in (drop 1 t)) c.requires.says).1, refl)

pub unwrap-requires : goal.unwrap-requires
unwrap-requires c =
    let t = c.args.text.now in
    let vs = numbers_in (drop 1 t) in
    let few = give_few t vs c.requires.says in
    let all = length-take-le c.args.count c.args.row.now (omega (arith, c.requires.counts)) in
    ap is_some (word_taken t vs c.loop-place.place-index _ _ _ c.requires.says (omega (arith, all, c.requires.counts, c.loop-place-test.true)) c.loop-place.invariant.0 c.word.ensures).0

pub loop-place-preserved : goal.loop-place-preserved
loop-place-preserved c =
    let t = c.args.text.now in
    let vs = numbers_in (drop 1 t) in
    let few = give_few t vs c.requires.says in
    let all = length-take-le c.args.count c.args.row.now (omega (arith, c.requires.counts)) in
    let (is, rest) = word_taken t vs c.loop-place.place-index _ _ _ c.requires.says (omega (arith, all, c.requires.counts, c.loop-place-test.true)) c.loop-place.invariant.0 c.word.ensures in (
      rest,
      number_placed vs c.loop-place.place-items c.loop-place.place-index c.unwrap.result _ (omega (arith, all, c.requires.counts, c.loop-place-test.true))
          (omega (arith, c.loop-place.auto.place-items, c.loop-place-test.true)) c.unwrap.ensures is c.loop-place.invariant.1,
    )

pub returns : goal.returns
returns c =
    let t = c.args.text.now in
    let vs = numbers_in (drop 1 t) in
    let few = give_few t vs c.requires.says in
    let all = length-take-le c.args.count c.args.row.now (omega (arith, c.requires.counts)) in
    numbers_placed vs c.loop-place.place-items c.args.row.now c.loop-place.place-index c.args.count c.requires.counts (omega (arith, all, c.loop-place.auto.place-items)) (omega (arith, all, c.loop-place-test.false)) c.loop-place.invariant.1
