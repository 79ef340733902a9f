use Rattle.std.proofs.Common.{◌≡◌, ℕ, ◌+◌, ◌*◌, ◌/◌, ◌%◌, ◌<◌, eqb, length, get_or, drop, set, vec_items, sym, ap, ◌∙◌, subst, arith}
use Rattle.std.proofs.lemmas.List.{take_at}
use Rattle.command.specs.Machine.{pick}
use Rattle.processor.specs.Pages.{Stored}
use Rattle.processor.proofs.Rows.{took_inside, took_apart, inside_then, free_inside_then, apart_then, distinct_then, stored}
use Rattle.processor.proofs.pages.Pages.store.Goals as goal

pub copy_page-requires : goal.copy_page-requires
copy_page-requires c =
    let v = c.args.self.now in
    let f : c.in-Some.f < 73728 = took_inside (vec_items v.tables) (vec_items v.free) (vec_items c.pop.new.self) c.in-Some.f 65536 (omega arith) (omega (arith, v.rows, v.tables.ok.0)) c.in-Some.ensures.items v.inside v.spare v.apart v.distinct in
    (record { to_in_bounds = omega (arith, c.as_mut_slice.ensures.len, v.full); from_in_bounds = omega arith })

pub invariant_of-self-2 : goal.invariant_of-self-2
invariant_of-self-2 c =
    let v = c.args.self.now in
    let ts = vec_items v.tables in
    let fs = vec_items v.free in
    let fs₁ = vec_items c.pop.new.self in
    let f = c.in-Some.f in
    let k : 65536 + c.args.p < 65792 = omega arith in
    let l : length ts ≡ 65792 = omega (arith, v.rows, v.tables.ok.0) in
    let t = c.in-Some.ensures.items in record {
      full = v.full;
      rows = v.rows;
      marks = v.marks;
      room = omega (arith, v.room, c.in-Some.ensures.capacity);
      inside = inside_then ts fs fs₁ f (65536 + c.args.p) k l t v.inside v.spare v.apart v.distinct;
      spare = free_inside_then ts fs fs₁ f (65536 + c.args.p) k l t v.inside v.spare v.apart v.distinct;
      apart = apart_then ts fs fs₁ f (65536 + c.args.p) k l t v.inside v.spare v.apart v.distinct;
      distinct = distinct_then ts fs fs₁ f (65536 + c.args.p) k l t v.inside v.spare v.apart v.distinct;
    }

pub returns : goal.returns
returns c =
    let v = c.args.self.now in
    let ts = vec_items v.tables in
    let fs = vec_items v.free in
    let fs₁ = vec_items c.pop.new.self in
    let f = c.in-Some.f in
    let l : length ts ≡ 65792 = omega (arith, v.rows, v.tables.ok.0) in
    let cells = c.copy_page.new.target in
    let e = take_at cells (drop (length cells) v.cells.items) v.cells.len (omega arith) in
    let na : (i : ℕ) → i < 65792 → get_or ts i 0 ≡ f → ⊥ = took_apart ts fs fs₁ f 65536 (omega arith) l c.in-Some.ensures.items v.inside v.spare v.apart v.distinct in
    let copied : (a : ℕ) → get_or cells a 0 ≡ pick (eqb (a / 256) f) (get_or c.args.words.now (c.args.p * 256 + a % 256) 0) (get_or (vec_items v.cells) a 0) =
    λ a. c.copy_page.ensures a ∙ ap (λ z. pick (eqb (a / 256) f) (get_or c.args.words.now (c.args.p * 256 + a % 256) 0) (get_or z a 0)) c.as_mut_slice.ensures.value in
    record {
      room = omega (arith, c.in-Some.ensures.len);
      stored = subst (λ z. Stored c.args.words.now c.args.p (vec_items v.cells) ts z (set ts (65536 + c.args.p) f)) (sym e)
          (stored c.args.words.now (vec_items v.cells) cells ts c.args.p f c.requires.page l na copied);
    }
