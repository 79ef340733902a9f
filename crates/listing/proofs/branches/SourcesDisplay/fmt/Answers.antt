use Rattle.std.proofs.Common.{ℕ, ◌+◌, List, [], ◌∷◌, drop, is_ok, sym, refl, ap, ◌∙◌, Bor}
use lib.Utf8.{encode}
use Rattle.command.specs.Codes.{codes}
use Rattle.listing.specs.Branches.{sources_on}
use Rattle.listing.proofs.Writing.{left_all, left_as, left_less, left_same, left_none}
use Rattle.listing.proofs.Turns.{source_at, source_end}
use Rattle.listing.proofs.branches.SourcesDisplay.fmt.Goals as goal
use Rattle.listing.proofs.branches.SourcesDisplay.fmt.Goals.{then-is_of+in_ok-write, else-is_of}

pub loop-place-init : goal.loop-place-init
loop-place-init g c = (([], (refl, refl)), left_all g.W.Write.write_str_gives _ _)

pub loop-place-preserved : goal.loop-place-preserved
unfolding encode
loop-place-preserved g c =
    let b = c.args.self.now.branch in
    let is = c.args.self.now.program.now in
    let i = c.loop-place.place-counter in
    let s = left_as g.W.Write.write_str_gives _ _ _ _ _ (source_at b is i c.loop-place.separator.now c.instr-item.result c.loop-place-test.true c.instr-item.is) c.loop-place.invariant.1 in
    let next : List ℕ → List ℕ = λ t. sources_on b (i + 1) t (codes (drop (i + 1) is)) in
    elim c.if-is_of.branch [
      | then-is_of+in_ok-write w ↦
          let z = ap (λ (r : Bor (List ℕ)). r.now) w.separator-is in (
            (44 ∷ 32 ∷ [], (refl, sym z)),
            left_as g.W.Write.write_str_gives _ _ _ _ _ (sym (ap next z))
                (left_less g.W.Write.write_str_gives _ _ _ _ _ _ _ _ _ _ _ (sym w.if-is_of.ensures) refl w.f-is (ap is_ok w.in_ok-write.was) w.write.ensures.writes s),
          )
      | else-is_of w ↦
          let z = ap (λ (r : Bor (List ℕ)). r.now) w.separator-is in
          let u = c.loop-place.invariant.0 in (
            (u.0, (u.1.0, u.1.1 ∙ sym z)),
            left_as g.W.Write.write_str_gives _ _ _ _ _ (sym (ap next z)) (left_same g.W.Write.write_str_gives _ _ _ _ _ _ _ (sym w.if-is_of.ensures) w.f-is s),
          )
    ]

pub returns-clause-writes : goal.returns-clause-writes
returns-clause-writes g c =
    left_none g.W.Write.write_str_gives _ _ _
    (left_as g.W.Write.write_str_gives _ _ _ _ _ (source_end c.args.self.now.branch c.args.self.now.program.now c.loop-place.place-counter c.loop-place.separator.now c.loop-place-test.false) c.loop-place.invariant.1)
