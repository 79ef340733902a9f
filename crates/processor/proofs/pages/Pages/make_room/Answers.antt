use Rattle.std.proofs.Common.{◌≡◌, ℕ, ◌<◌, ◌≤◌, true, false, length, get_or, drop, vec_items, sym, ap, ◌∙◌, subst, arith}
use Rattle.std.proofs.lemmas.List.{take_at}
use Rattle.processor.specs.Pages.{marked, Gathered}
use Rattle.processor.proofs.Rows.{gathered_apart}
use Rattle.processor.proofs.pages.Pages.make_room.Goals as goal

pub gather-requires : goal.gather-requires
gather-requires c =
    let v = c.args.self.now in
    let used = c.mark.new.used in
    let e = c.as_slice-2.ensures.value ∙ take_at used (drop (length used) v.used.items) v.used.len (omega arith) in
    record { marks = ap length e ∙ omega arith; few = subst (λ z. marked z ≤ 65792) (sym e) c.mark.ensures.few; room = v.room }

pub invariant_of-self-2 : goal.invariant_of-self-2
invariant_of-self-2 c =
    let v = c.args.self.now in
    let used = c.mark.new.used in
    let e = c.as_slice-2.ensures.value ∙ take_at used (drop (length used) v.used.items) v.used.len (omega arith) in
    let fs = vec_items c.gather.new.free in
    let g : Gathered used 73728 fs = subst (λ z. Gathered z 73728 fs) e c.gather.ensures.gathered in
    let all : (i : ℕ) → i < 65792 → get_or used (get_or (vec_items v.tables) i 0) false ≡ true = λ i h. ap (λ z. get_or used (get_or z i 0) false) (sym c.as_slice.ensures.value) ∙ c.mark.ensures.all i h in
    record {
      full = v.full;
      rows = v.rows;
      marks = v.marks;
      room = c.gather.ensures.room;
      inside = v.inside;
      spare = g.below;
      apart = gathered_apart used (vec_items v.tables) fs all g;
      distinct = g.distinct;
    }
