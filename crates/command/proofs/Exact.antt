-- Where one stops, exactly; and what follows from it more loosely. Assumes nothing.
use Rattle.std.proofs.Common.{subst, inl, inr, ⊎_elim}
use Rattle.command.specs.Statements.{FirstStop, LastStop, ChangerLast}
use Rattle.command.specs.Exact.{OnExact, FirstStopExact, BackExact, LastStopExact, ChangerExact}
use Rattle.command.proofs.Stops.{on_stop, back_stop, LastAt, last_at}
use Rattle.command.proofs.StopsAre.{on_till_is, back_till_is, last_change_is, last_change_none}

pub first_stop_exact : FirstStopExact
unfolding FirstStopExact
first_stop_exact w bs t n u =
    (λ e. subst (OnExact w bs t n) e (on_stop w bs t n), λ x. on_till_is w bs t n u x.0 x.1 x.2 x.3 x.4)

pub last_stop_exact : LastStopExact
unfolding LastStopExact
last_stop_exact w bs t n u =
    (λ e. subst (BackExact w bs t n) e (back_stop w bs t n), λ x. back_till_is w bs t n u x.0 x.1 x.2 x.3)

pub changer_exact : ChangerExact
unfolding ChangerExact LastAt
changer_exact = (
  (λ w a t u. (λ e. (subst (LastAt w a t) e (last_at w a t)).1, λ x. last_change_is w a t u x.0 x.1 x.2 x.3)),
  (λ w a t. (λ e. subst (LastAt w a t) e (last_at w a t), last_change_none w a t)),
)

pub first_stop : FirstStop
unfolding FirstStop FirstStopExact
first_stop w bs t n u e =
    let x = (first_stop_exact w bs t n u).0 e in
    (x.0, x.1, x.3, ⊎_elim (λ y. inl y.1) inr x.4)

pub last_stop : LastStop
unfolding LastStop LastStopExact
last_stop w bs t n u e =
    let x = (last_stop_exact w bs t n u).0 e in
    (x.0, x.1, (λ v p q _. x.2 v p q), ⊎_elim (λ y. inr (inl y)) (λ y. ⊎_elim (λ z. inl z.1) (λ z. inr (inr z)) y) x.3)

pub changer_last : ChangerLast
unfolding ChangerLast ChangerExact
changer_last w a t u e = let x = (changer_exact.0 w a t u).0 e in (x.0, x.2, x.3)
