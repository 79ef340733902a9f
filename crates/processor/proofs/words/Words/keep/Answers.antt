use Rattle.std.proofs.Common.{◌+◌, ◌*◌, ◌/◌, ◌%◌, eqb, get_or, vec_items, sym, refl, ap, ◌∙◌}
use Rattle.command.specs.Machine.{pick}
use Rattle.processor.specs.Held.{held_word}
use Rattle.processor.proofs.Flushes.{pick_same}
use Rattle.processor.proofs.words.Words.keep.Goals as goal

pub invariant_of-self : goal.invariant_of-self
invariant_of-self c =
    let v = c.args.self.now in record {
      full = v.full;
      clean = (λ a h d.
          sym (c.copy_row.ensures.rows 256 a h ∙ pick_same (eqb 256 c.args.slot) _ ∙ c.flush.ensures.present a h ∙ ap (λ z. get_or z a 0) c.as_slice.ensures.value));
    }

pub returns : goal.returns
returns c =
    let v = c.args.self.now in
    record {
      same = refl;
      kept = λ row a hr h.
          c.copy_row.ensures.rows row a h
          ∙ ap (λ z. pick (eqb row c.args.slot) z (held_word c.flush.new.pages row a)) (c.flush.ensures.present a h ∙ ap (λ z. get_or z a 0) c.as_slice.ensures.value)
          ∙ ap (λ z. pick (eqb row c.args.slot) (get_or (vec_items v.items) a 0) z)
          (c.flush.ensures.others row a hr h ∙ (λ i. get_or (c.make_room.ensures.cells i) (get_or (c.make_room.ensures.tables i) (row * 256 + a / 256) 0 * 256 + a % 256) 0));
    }
