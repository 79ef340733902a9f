use Rattle.std.proofs.Common.{◌≡◌, ℕ, ◌<◌, ◌≤◌, true, false, length, get_or, drop, vec_items, sym, ap, ◌∙◌, subst, arith}
use lib.ListN.{length-replicate}
use Rattle.std.proofs.lemmas.List.{take_at}
use Rattle.processor.specs.Pages.{marked, Gathered}
use Rattle.processor.proofs.Rows.{gathered_apart, zeros_inside}
use Rattle.processor.proofs.pages.Pages.zeros.Goals as goal

pub mark-requires : goal.mark-requires
mark-requires c =
    let z = c.in_ok-tables.ensures.items_if_clones_equal (λ y e. e) in
    let e = c.as_slice.ensures.value ∙ z in
    let u = c.in_ok-used.ensures.items_if_clones_equal (λ y e. e) in
    record {
      rows = ap length e ∙ length-replicate {A = ℕ} 65792 0;
      inside = zeros_inside c.as_slice.result.now 65792 e;
      marks = ap length (c.as_mut_slice.ensures.value ∙ u) ∙ length-replicate 73728 false;
    }

pub gather-requires : goal.gather-requires
gather-requires c =
    let used = c.mark.new.used in
    let v = c.in_ok-used.used in
    let u = c.in_ok-used.ensures.items_if_clones_equal (λ y e. e) in
    let n : length (vec_items v) ≡ 73728 = ap length u ∙ length-replicate 73728 false in
    let e = c.as_slice-2.ensures.value ∙ take_at used (drop (length used) v.items) v.len (omega arith) in
    record { marks = ap length e ∙ omega (arith, v.ok.0); few = subst (λ z. marked z ≤ 65792) (sym e) c.mark.ensures.few; room = c.in_ok-free.ensures.capacity }

pub invariant_of-result : goal.invariant_of-result
invariant_of-result c =
    let used = c.mark.new.used in
    let v = c.in_ok-used.used in
    let u = c.in_ok-used.ensures.items_if_clones_equal (λ y e. e) in
    let n : length (vec_items v) ≡ 73728 = ap length u ∙ length-replicate 73728 false in
    let e = c.as_slice-2.ensures.value ∙ take_at used (drop (length used) v.items) v.len (omega arith) in
    let fs = vec_items c.gather.new.free in
    let ts = vec_items c.in_ok-tables.tables in
    let z = c.in_ok-tables.ensures.items_if_clones_equal (λ y e. e) in
    let cs = c.in_ok-cells.ensures.items_if_clones_equal (λ y e. e) in
    let nt : length ts ≡ 65792 = ap length z ∙ length-replicate {A = ℕ} 65792 0 in
    let nc : length (vec_items c.in_ok-cells.cells) ≡ 18874368 = ap length cs ∙ length-replicate {A = ℕ} 18874368 0 in
    let g : Gathered used 73728 fs = subst (λ z. Gathered z 73728 fs) e c.gather.ensures.gathered in
    let all : (i : ℕ) → i < 65792 → get_or used (get_or ts i 0) false ≡ true = λ i h. ap (λ z. get_or used (get_or z i 0) false) (sym c.as_slice.ensures.value) ∙ c.mark.ensures.all i h in record {
      full = omega (arith, c.in_ok-cells.cells.ok.0);
      rows = omega (arith, c.in_ok-tables.tables.ok.0);
      marks = omega (arith, v.ok.0);
      room = c.gather.ensures.room;
      inside = zeros_inside ts 65792 z;
      spare = g.below;
      apart = gathered_apart used ts fs all g;
      distinct = g.distinct;
    }
