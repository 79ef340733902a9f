use Rattle.std.proofs.Common.{◌≡◌, ◌+◌, ◌<◌, [], ◌∷◌, ◌++◌, length, take, vec_items, vec_len, vec_capacity, sym, ap, ◌∙◌, subst, arith}
use Rattle.std.proofs.lemmas.List.{take_all}
use Rattle.processor.specs.Pages.{marked, Gathered}
use Rattle.processor.proofs.Marks.{not_marked, also_marked, gathered_none, gathered_skip, gathered_push}
use Rattle.processor.proofs.store.gather.Goals as goal
use Rattle.processor.proofs.store.gather.Goals.{then-not-named, else-not-named}

pub loop-page-init : goal.loop-page-init
unfolding marked
loop-page-init c = (omega arith, omega arith, subst (Gathered c.args.used.now 0) (sym c.clear.ensures.items) (gathered_none c.args.used.now))

pub loop-page-preserved : goal.loop-page-preserved
loop-page-preserved c =
    let used = c.args.used.now in
    let h : c.loop-page.page < length used = omega arith in
    elim c.if-not-named.branch [
      | then-not-named w ↦
          let lt : vec_len c.loop-page.free < vec_capacity c.loop-page.free = omega arith in
          let ok = w.push.ensures.succeeds lt in
          let items : vec_items c.if-not-named.free ≡ vec_items c.loop-page.free ++ c.loop-page.page ∷ [] = ap vec_items w.free-is ∙ (simp ok at w.push.ensures.items) in
          let len : vec_len c.if-not-named.free ≡ vec_len c.loop-page.free + 1 = ap vec_len w.free-is ∙ (simp ok at w.push.ensures.len) in
          let m = not_marked used c.loop-page.page h w.if-not-named.true in
          (omega (arith, ap vec_capacity w.free-is, w.push.ensures.capacity), omega arith, subst (Gathered used (c.loop-page.page + 1)) (sym items) (gathered_push used c.loop-page.page (vec_items c.loop-page.free) w.if-not-named.true c.loop-page.invariant.2))
      | else-not-named w ↦
          let m = also_marked used c.loop-page.page h w.if-not-named.false in
          (omega (arith, ap vec_capacity w.free-is), omega (arith, ap vec_len w.free-is), subst (λ v. Gathered used (c.loop-page.page + 1) (vec_items v)) (sym w.free-is) (gathered_skip used c.loop-page.page (vec_items c.loop-page.free) c.loop-page.invariant.2))
    ]

pub returns : goal.returns
returns c =
    let e : c.loop-page.page ≡ 73728 = omega arith in
    let t : take c.loop-page.page c.args.used.now ≡ c.args.used.now = take_all c.loop-page.page c.args.used.now (omega arith) in
    record { room = c.loop-page.invariant.0; many = omega (arith, ap marked t); gathered = subst (λ k. Gathered c.args.used.now k (vec_items c.loop-page.free)) e c.loop-page.invariant.2 }
