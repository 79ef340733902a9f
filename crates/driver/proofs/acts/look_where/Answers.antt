use Rattle.std.proofs.Common.{[], ◌∷◌, ◌∙◌, arith}
use Rattle.driver.proofs.Serving.{saw_place}
use Rattle.driver.proofs.Seen.{two_set}
use Rattle.driver.proofs.acts.look_where.Goals as goal

pub returns-clause-done : goal.returns-clause-done
returns-clause-done g c =
    let spot = c.spot-spot.result in
    saw_place _ _ _ _ _ _
    (two_set c.args.seen.now c.from.result c.number_of.result (omega arith) ∙ ((λ i. c.from.ensures i ∷ c.number_of.ensures i ∷ [])))
    c.spot-spot.ensures
