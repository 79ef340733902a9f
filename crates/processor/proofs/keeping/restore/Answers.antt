use Rattle.std.proofs.Common.{◌≡◌, ℕ, ◌+◌, ◌*◌, ◌/◌, ◌%◌, ◌<◌, true, false, eqb, length, get_or, vec_items, sym, ap, ◌∙◌, arith}
use Rattle.command.specs.Machine.{pick}
use Rattle.processor.specs.Held.{held_word}
use Rattle.processor.specs.declared.pages.Pages.{Pages}
use Rattle.processor.proofs.Defaults.{other_default}
use Rattle.processor.proofs.Flushes.{restored_front, restored_rest, same_front, same_page}
use Rattle.processor.proofs.keeping.restore.Goals as goal
use Rattle.processor.proofs.keeping.restore.Goals.{then-written, else-written+else-page-index}

-- the page that a row names at a place, as the code reads it
named : (ps : Pages) (i x : ℕ) → i < 65792 → x ≡ get_or (vec_items ps.tables) i x → x ≡ get_or (vec_items ps.tables) i 0
named ps i x h e = e ∙ other_default (vec_items ps.tables) i x 0 (omega (arith, ps.rows, ps.tables.ok.0))

pub loop-p-preserved : goal.loop-p-preserved
loop-p-preserved c =
    let ps = c.args.pages.now in
    let cs = vec_items ps.cells in
    let ts = vec_items ps.tables in
    let ws₀ = c.args.items.now in
    let ws = c.loop-p.items in
    let slot = c.args.slot in
    let p = c.loop-p.p in
    let hp : p < 256 = omega arith in
    let V = held_word ps slot in
    let i : slot * 256 + p < 65792 = omega arith in
    let e = named ps (slot * 256 + p) c.index-page.result.now i c.index-page.ensures in
    elim c.if-written.branch [
      | then-written w ↦
          let f : ℕ → ℕ = λ k. get_or cs (get_or ts (slot * 256 + p) 0 * 256 + k) 0 in
          let copied : (a : ℕ) → get_or c.if-written.items a 0 ≡ pick (eqb (a / 256) p) (f (a % 256)) (get_or ws a 0) =
          λ a. ap (λ z. get_or z a 0) w.items-is ∙ w.copy_page.ensures a ∙ ap (λ z. pick (eqb (a / 256) p) (get_or z (c.index-page.result.now * 256 + a % 256) 0) (get_or ws a 0)) w.as_slice.ensures.value
          ∙ ap (λ z. pick (eqb (a / 256) p) (get_or cs (z * 256 + a % 256) 0) (get_or ws a 0)) e in (
            restored_front ws₀ ws slot p hp V c.loop-p.invariant.0 c.loop-p.invariant.1 c.if-written.items f copied (λ a q. ap (λ z. get_or cs (get_or ts (slot * 256 + z) 0 * 256 + a % 256) 0) (sym q)),
            restored_rest ws₀ ws slot p hp V c.loop-p.invariant.0 c.loop-p.invariant.1 c.if-written.items f copied,
          )
      | else-written+else-page-index w ↦
          let j : 65536 + p < 65792 = omega arith in
          let there : p < length c.args.dirty.now = omega arith in
          let clean : get_or c.args.dirty.now p true ≡ false = other_default c.args.dirty.now p true false there ∙ w.if-written.false in
          let same : get_or ts (slot * 256 + p) 0 ≡ get_or ts (65536 + p) 0 = sym e ∙ w.if-page-index.false ∙ named ps (65536 + p) w.index.result.now j w.index.ensures in (
            λ a h. ap (λ z. get_or z a 0) w.items-is ∙ same_front ws₀ ws slot p hp V c.loop-p.invariant.0 c.loop-p.invariant.1 (same_page ws₀ cs ts c.args.dirty.now slot p hp clean same c.requires.clean) a h,
            λ a h. ap (λ z. get_or z a 0) w.items-is ∙ c.loop-p.invariant.1 a (omega arith),
          )
    ]
