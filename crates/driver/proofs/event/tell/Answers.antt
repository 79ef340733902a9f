use Rattle.std.specs.Int.{from_bool}
use Rattle.std.proofs.Common.{◌≡◌, ℕ, Bool, true, false, eqb, refl, sym, ap, ◌∙◌, lit≤}
use Rattle.target.specs.Run.{came}
use Rattle.driver.specs.Carried.{meant}
use Rattle.driver.proofs.Stepped.{stepped}
use Rattle.driver.proofs.event.tell.Goals as goal

one_bit : (b : Bool) {n : ℕ} → n ≡ from_bool b → eqb n 1 ≡ b
one_bit true e = rw e refl
one_bit false e = rw e refl

pub returns-in-Said : goal.returns-in-Said
returns-in-Said c =
    let s = stepped c.args.memory.now 0 0 0 0 _ c.args.row.now _ _ _ _ (sym (ap (λ e. meant e c.args.text.now c.args.seen.now) c.in-Said.is)) c.requires.cells (lit≤ tt) c.requires.wide c.step.ensures in
    record { memory = s.0; told = s.1 }

pub returns-in-Came : goal.returns-in-Came
returns-in-Came c =
    let x = c.in-Came.came in
    let s = stepped c.args.memory.now 1 x.by c.from.result c.number_of.result _ c.args.row.now _ _ _ _
    ((λ i. came x.by (one_bit x.hit c.from.ensures i) (c.number_of.ensures i)) ∙ sym (ap (λ e. meant e c.args.text.now c.args.seen.now) c.in-Came.is))
    c.requires.cells (lit≤ tt) c.requires.wide c.step-in-Came.ensures in
    record { memory = s.0; told = s.1 }

pub returns-in-Saw : goal.returns-in-Saw
returns-in-Saw c =
    let s = stepped c.args.memory.now 2 0 0 0 _ c.args.row.now _ _ _ _
    (sym (ap (λ e. meant e c.args.text.now c.args.seen.now) c.in-Saw.is)) c.requires.cells (lit≤ tt) c.requires.wide c.step-in-Saw.ensures in
    record { memory = s.0; told = s.1 }

pub returns-in-Next : goal.returns-in-Next
returns-in-Next c =
    let s = stepped c.args.memory.now 3 0 0 0 _ c.args.row.now _ _ _ _ (sym (ap (λ e. meant e c.args.text.now c.args.seen.now) c.in-Next.is)) c.requires.cells (lit≤ tt) c.requires.wide c.step-in-Next.ensures in
    record { memory = s.0; told = s.1 }
