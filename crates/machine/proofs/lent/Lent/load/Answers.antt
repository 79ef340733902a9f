use Rattle.std.proofs.Common.{length, drop, ap, ◌∙◌, arith}
use Rattle.command.specs.Told.{program_in}
use Rattle.machine.specs.Entry.{on_row}
use Rattle.machine.proofs.Texts.{load_text, load_few}
use Rattle.machine.proofs.Plans.{loads}
use Rattle.machine.proofs.lent.Lent.load.Goals as goal

pub slice_bounds-put_front-count : goal.slice_bounds-put_front-count
slice_bounds-put_front-count c = let t = c.args.text.now in let h = (load_text t (program_in (drop 1 t)) c.requires.says).0 in omega arith

pub slice_bounds-put_front-start : goal.slice_bounds-put_front-start
slice_bounds-put_front-start c = let t = c.args.text.now in let h = (load_text t (program_in (drop 1 t)) c.requires.says).0 in omega arith

pub put_front-requires : goal.put_front-requires
put_front-requires c =
    let t = c.args.text.now in
    let e = ap length (load_text t (program_in (drop 1 t)) c.requires.says).1 in
    omega (arith, load_few t (program_in (drop 1 t)) c.requires.says)

pub returns : goal.returns
returns c =
    let t = c.args.text.now in
    let is = program_in (drop 1 t) in
    loads c.args.self.memory.now c.args.self.row.now _ is c.into.result c.args.count c.into.ensures c.requires.counts
    (c.put_front.ensures ∙ ap (λ bs. on_row bs c.args.self.row.now) (load_text t is c.requires.says).1)
