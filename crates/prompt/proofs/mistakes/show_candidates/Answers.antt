use Rattle.std.proofs.Common.{[], ◌∷◌, List, ℕ, sym, refl, ap, ◌∙◌, Bor}
use lib.Utf8.{encode}
use Rattle.prompt.proofs.mistakes.show_candidates.Goals as goal
use Rattle.prompt.proofs.mistakes.show_candidates.Goals.{then-goes_on_from+in_ok-write_str+in_ok-write_str-2, else-goes_on_from}

pub loop-verb-preserved : goal.loop-verb-preserved
unfolding encode
loop-verb-preserved g c =
    elim c.if-goes_on_from.branch [
      | then-goes_on_from+in_ok-write_str+in_ok-write_str-2 w ↦
          let z = ap (λ (r : Bor (List ℕ)). r.now) w.separator-is in (32 ∷ 111 ∷ 114 ∷ 32 ∷ [], (refl, sym z))
      | else-goes_on_from w ↦
          let z = ap (λ (r : Bor (List ℕ)). r.now) w.separator-is in
          let u = c.loop-verb.invariant in (u.0, (u.1.0, u.1.1 ∙ sym z))
    ]
