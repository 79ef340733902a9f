use Rattle.std.proofs.Common.{◌≡◌, [], ◌∷◌, suc, ◌+◌, ◌-◌, List, ◌++◌, vec_items, sym, ap, ◌∙◌, arith}
use Rattle.command.specs.Codes.{code, codes}
use Rattle.command.specs.Machine.{Instr}
use Rattle.command.specs.declared.code.Instr.{Instr as Code}
use Rattle.command.specs.Reader.{instr, so_many, as_a}
use Rattle.command.specs.Taken.{left}
use Rattle.command.proofs.Many.{each_append, left_start, left_more, left_none, left_end}
use Rattle.command.proofs.Texts.{took, took_none}
use Rattle.spelling.proofs.Programs.{none_taken, err_is}
use Rattle.spelling.proofs.spelled.read_instrs.Goals as goal

pub loop-init : goal.loop-init
loop-init c =
    let t = left c.args.cursor.now in
    let m = c.args.count in
    let z : m - 0 ≡ m = omega arith in
    left_start instr m t
    ∙ ap (λ k. as_a (λ xs. xs) (so_many instr k) t) (sym z)
    ∙ ap (λ (v : List Code). as_a (λ xs. codes v ++ xs) (so_many instr (m - 0)) t) (sym c.new-program.ensures.items)

pub returns-in_err-instr : goal.returns-in_err-instr
returns-in_err-instr c =
    let m = c.args.count in
    let t = left c.loop.cursor in
    let u = left c.instr.new.self in
    let n = c.in_err-instr.ensures.ok_part in
    let e : m - c.loop.counter ≡ suc (m - (c.loop.counter + 1)) = omega arith in
    none_taken (so_many instr m (left c.args.cursor.now)) u c.in_err-instr.field-0.0 c.from_residual.result
    (left_none instr m (left c.args.cursor.now) _ _ (codes (vec_items c.loop.program)) t e c.loop.invariant (took_none code (instr t) u n c.instr.ensures))
    (err_is c.in_err-instr.ensures.value n) c.from_residual.ensures.1

pub loop-preserved : goal.loop-preserved
loop-preserved c =
    let m = c.args.count in
    let t = left c.loop.cursor in
    let u = left c.instr.new.self in
    let done = codes (vec_items c.loop.program) in
    let e : m - c.loop.counter ≡ suc (m - (c.loop.counter + 1)) = omega arith in
    let put = ap codes c.in_ok-push.ensures.items ∙ each_append code (vec_items c.loop.program) (c.in_ok-instr.instr ∷ []) in
    left_more instr m (left c.args.cursor.now) _ _ done t e c.loop.invariant (took code (instr t) u c.in_ok-instr.ensures.ok_part c.instr.ensures)
    ∙ ap (λ (d : List Instr). as_a (λ xs. d ++ xs) (so_many instr (m - (c.loop.counter + 1))) u) (sym put)

pub returns : goal.returns
returns c = left_end instr c.args.count (left c.args.cursor.now) (c.args.count - c.loop.counter) (codes (vec_items c.loop.program)) (left c.loop.cursor) (omega arith) c.loop.invariant
