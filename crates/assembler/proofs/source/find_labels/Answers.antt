use Rattle.std.proofs.Common.{◌+◌, [], eqb, List, vec_items, rules, sym, refl, ap, ◌∙◌}
use Rattle.std.proofs.lemmas.Fn.{always_returns_same}
use Rattle.assembler.specs.declared.labels.Label.{Label as Code}
use Rattle.assembler.specs.Instructions.{labels_of}
use Rattle.assembler.specs.Reading.{shown_name}
use Rattle.assembler.specs.Source.{lines, noted, line_label, with_label, find_labels}
use Rattle.assembler.proofs.Lines.{find_step, find_stop, find_end, passes_on}
use Rattle.assembler.proofs.Pieces.{line as first_line}
use Rattle.assembler.proofs.source.find_labels.Goals as goal

pub loop-i-init : goal.loop-i-init
loop-i-init c = search rules

pub returns-in_err-name : goal.returns-in_err-name
returns-in_err-name c =
    let s = c.in-Some.ensures.steps in
    let f = s.0.1 in
    let q = first_line _ _ _ f.0 s.0.0 f.1 (f.2 (λ b. eqb b 10) (always_returns_same _ _ _ (λ a r g k. (search rules, refl)))).1 in
    let line = c.of-line.ensures.text ∙ q.0 in
    let number = sym (c.of-line.ensures.number ∙ ap (λ u. u + 1) s.1) in
    let same = ap (λ (v : List Code). find_labels (c.loop-i.i-iterator.count + 1) (labels_of v) c.loop-i.place (lines c.loop-i.i-iterator.iter.rest.now)) c.deref.ensures.value in
    let told = ap (λ n. line_label n (labels_of c.deref.result.now) c.loop-i.place c.of-line.result.text.now) number in
    passes_on noted (λ v. labels_of (vec_items v))
    (line_label c.of-line.result.number (labels_of c.deref.result.now) c.loop-i.place c.of-line.result.text.now)
    (find_labels 1 [] 0 (lines c.args.text.now))
    c.in_err-name.field-0.0 c.from_residual.result
    (λ m g. sym (same ∙ c.loop-i.invariant) ∙ find_stop (c.loop-i.i-iterator.count + 1) c.loop-i.place (labels_of c.deref.result.now) c.loop-i.i-iterator.iter.rest.now c.of-line.result.text.now s.0.2 line m (told ∙ g))
    c.in_err-name.ensures.read c.from_residual.ensures.1

pub loop-i-preserved : goal.loop-i-preserved
loop-i-preserved c =
    let s = c.in-Some.ensures.steps in
    let f = s.0.1 in
    let q = first_line _ _ _ f.0 s.0.0 f.1 (f.2 (λ b. eqb b 10) (always_returns_same _ _ _ (λ a r g k. (search rules, refl)))).1 in
    let line = c.of-line.ensures.text ∙ q.0 in
    let number = sym (c.of-line.ensures.number ∙ ap (λ u. u + 1) s.1) in
    let same = ap (λ (v : List Code). find_labels (c.loop-i.i-iterator.count + 1) (labels_of v) c.loop-i.place (lines c.loop-i.i-iterator.iter.rest.now)) c.deref.ensures.value in
    let told = ap (λ n. line_label n (labels_of c.deref.result.now) c.loop-i.place c.of-line.result.text.now) number in
    let put = ap (λ (v : List Code). with_label (labels_of v) c.loop-i.place (shown_name c.in_ok-name.name)) (sym c.deref.ensures.value) in
    ap (λ n. find_labels (n + 1) (labels_of (vec_items c.put_label.new.labels)) c.in_ok-name.next (lines c.next.new.self.iter.rest.now)) s.2
    ∙ (sym (find_step (c.loop-i.i-iterator.count + 1) c.loop-i.place (labels_of c.deref.result.now) (labels_of (vec_items c.put_label.new.labels)) c.loop-i.i-iterator.iter.rest.now c.of-line.result.text.now c.next.new.self.iter.rest.now (shown_name c.in_ok-name.name) c.in_ok-name.next s.0.2 line q.1 (told ∙ c.in_ok-name.ensures.read) (c.in_ok-put_label.ensures ∙ put))
    ∙ same ∙ c.loop-i.invariant)

pub returns : goal.returns
returns c =
    sym c.loop-i.invariant ∙ find_end (c.loop-i.i-iterator.count + 1) c.loop-i.place (labels_of (vec_items c.loop-i.labels)) c.loop-i.i-iterator.iter.rest.now c.in-None.ensures.steps.0.0
