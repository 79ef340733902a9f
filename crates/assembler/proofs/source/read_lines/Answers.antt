use Rattle.std.proofs.Common.{◌+◌, [], eqb, vec_items, rules, sym, refl, ap, ◌∙◌}
use Rattle.std.proofs.lemmas.Fn.{always_returns_same}
use Rattle.command.specs.Codes.{codes}
use Rattle.assembler.specs.Instructions.{labels_of}
use Rattle.assembler.specs.Source.{lines, instr_of, line_instr, read_lines}
use Rattle.assembler.proofs.Lines.{read_step, read_stop, read_end, passes_on}
use Rattle.assembler.proofs.Pieces.{line as first_line}
use Rattle.assembler.proofs.source.read_lines.Goals as goal

pub loop-i-init : goal.loop-i-init
loop-i-init c = search rules

pub returns-in_err-instr : goal.returns-in_err-instr
returns-in_err-instr c =
    let s = c.in-Some.ensures.steps in
    let f = s.0.1 in
    let q = first_line _ _ _ f.0 s.0.0 f.1 (f.2 (λ b. eqb b 10) (always_returns_same _ _ _ (λ a r g k. (search rules, refl)))).1 in
    let line = c.of-line.ensures.text ∙ q.0 in
    let number = sym (c.of-line.ensures.number ∙ ap (λ u. u + 1) s.1) in
    let told = ap (λ n. line_instr n (labels_of c.args.labels.now) c.of-line.result.text.now) number in
    passes_on instr_of (λ v. codes (vec_items v))
    (line_instr c.of-line.result.number (labels_of c.args.labels.now) c.of-line.result.text.now)
    (read_lines 1 (labels_of c.args.labels.now) [] (lines c.args.text.now))
    c.in_err-instr.field-0.0 c.from_residual.result
    (λ m g. sym c.loop-i.invariant ∙ read_stop (c.loop-i.i-iterator.count + 1) (labels_of c.args.labels.now) (codes (vec_items c.loop-i.program)) c.loop-i.i-iterator.iter.rest.now c.of-line.result.text.now s.0.2 line m (told ∙ g))
    c.in_err-instr.ensures c.from_residual.ensures.1

pub loop-i-preserved : goal.loop-i-preserved
loop-i-preserved c =
    let s = c.in-Some.ensures.steps in
    let f = s.0.1 in
    let q = first_line _ _ _ f.0 s.0.0 f.1 (f.2 (λ b. eqb b 10) (always_returns_same _ _ _ (λ a r g k. (search rules, refl)))).1 in
    let line = c.of-line.ensures.text ∙ q.0 in
    let number = sym (c.of-line.ensures.number ∙ ap (λ u. u + 1) s.1) in
    let told = ap (λ n. line_instr n (labels_of c.args.labels.now) c.of-line.result.text.now) number in
    ap (λ n. read_lines (n + 1) (labels_of c.args.labels.now) (codes (vec_items c.put_instr.new.program)) (lines c.next.new.self.iter.rest.now)) s.2
    ∙ (sym (read_step (c.loop-i.i-iterator.count + 1) (labels_of c.args.labels.now) (codes (vec_items c.loop-i.program)) (codes (vec_items c.put_instr.new.program)) c.loop-i.i-iterator.iter.rest.now c.of-line.result.text.now c.next.new.self.iter.rest.now (instr_of c.in_ok-instr.instr) s.0.2 line q.1 (told ∙ c.in_ok-instr.ensures) c.in_ok-put_instr.ensures)
    ∙ c.loop-i.invariant)

pub returns : goal.returns
returns c =
    sym c.loop-i.invariant ∙ read_end (c.loop-i.i-iterator.count + 1) (labels_of c.args.labels.now) (codes (vec_items c.loop-i.program)) c.loop-i.i-iterator.iter.rest.now c.in-None.ensures.steps.0.0
