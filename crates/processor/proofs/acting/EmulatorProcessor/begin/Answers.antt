use Rattle.std.proofs.Common.{rules, ◌≡◌, ℕ, ◌+◌, ◌≤◌, ◌++◌, length, get_or, None, vec_items, vec_len, vec_capacity, ap, ◌∙◌, arith}
use Rattle.command.specs.Codes.{code, codes}
use Rattle.target.proofs.Doing.{each_length, refuses_starts, does_starts}
use Rattle.processor.specs.Holding.{Held}
use Rattle.processor.proofs.Defaults.{defaults}
use Rattle.processor.proofs.Holds.{begun}
use Rattle.processor.proofs.acting.EmulatorProcessor.begin.Goals as goal

pub returns-then-program-gt-MOST_INSTRUCTIONS : goal.returns-then-program-gt-MOST_INSTRUCTIONS
returns-then-program-gt-MOST_INSTRUCTIONS c =
    let e = c.args.self.now in
    (c.if-program-gt-MOST_INSTRUCTIONS.true, refuses_starts (Held e) (Held e) (codes c.args.program.now) (omega (arith, each_length code c.args.program.now)) (λ t h. h))

pub returns : goal.returns
returns c =
    let e = c.args.self.now in
    let is = c.args.program.now in
    let fits : vec_len c.clear.new.self + length is ≤ vec_capacity c.clear.new.self = omega (arith, c.clear.ensures.len, c.clear.ensures.capacity, e.capacity) in
    let ok = c.extend_from_slice.ensures.succeeds fits in
    let items : vec_items c.extend_from_slice.new.self ≡ is = (simp ok at c.extend_from_slice.ensures.items) ∙ ap (λ z. z ++ is) c.clear.ensures.items in
    let none : (k : ℕ) → get_or (vec_items c.fill.new.self) k None ≡ None = defaults _ _ None (c.fill.ensures.items (λ y q. search rules)) in
    let r = c.restart.ensures in
    let few : length (codes is) ≤ 4096 = omega (arith, each_length code is) in (
      omega arith,
      omega (arith, r.room, r.put, e.outlet),
      begun _ is items c.clear-2.ensures.items r.at r.regs r.taken r.put r.log c.clear-3.ensures none,
      λ t h. does_starts (Held e) _ (codes is) few (begun _ is items c.clear-2.ensures.items r.at r.regs r.taken r.put r.log c.clear-3.ensures none) t h,
    )
