use Rattle.std.proofs.Common.{◌≡◌, length, get_or, drop, sym, ap, ◌∙◌, arith}
use Rattle.std.proofs.lemmas.List.{take_at}
use Rattle.std.proofs.lemmas.Bool.{ne_eqb}
use Rattle.processor.proofs.words.Words.take_up.Goals as goal

pub invariant_of-self : goal.invariant_of-self
invariant_of-self c =
    let v = c.args.self.now in
    let items = c.restore.new.items in
    let e = take_at items (drop (length items) v.items.items) v.items.len (omega arith) in
    record { full = v.full; clean = (λ a h d. ap (λ z. get_or z a 0) e ∙ c.restore.ensures a h ∙ sym (c.copy_row.ensures.rows 256 a h)) }

pub returns : goal.returns
returns c =
    let v = c.args.self.now in
    let items = c.restore.new.items in
    let e = take_at items (drop (length items) v.items.items) v.items.len (omega arith) in
    record {
      taken = λ a h. ap (λ z. get_or z a 0) e ∙ c.restore.ensures a h;
      rows = λ row a hr h. let ne : row ≡ 256 → ⊥ = λ q. (let p = q in omega arith) in c.copy_row.ensures.rows row a h ∙ simp (ne_eqb row 256 ne);
    }
