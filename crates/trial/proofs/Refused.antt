-- A step that there isn't, and why. Assumes nothing.
use Rattle.std.proofs.Common.{◌≡◌, Some, None, Ok, Err, Option, Result, sym, ap, ◌∙◌}
use Rattle.std.specs.Option.{ok_or}
use Rattle.std.specs.Result.{IsErrAnd}
use Rattle.command.specs.Machine.{State as Model}
use Rattle.trial.specs.declared.moments.Moment.{Moment}
use Rattle.trial.specs.declared.moments.Why.{Why}
use Rattle.trial.specs.Moments.{Next, status_of}

-- the error of `ok_or` is the one that it was given
pub error_is : {T : Type 0} (o : Option T) (why y : Why) → o ≡ None → ◌≡◌ {A = Result T Why} (Err y) (ok_or o why) → y ≡ why
error_is None why y n e = cc
error_is (Some x) why y n e = absurd (cc)

-- handed on by `?`
pub stops_with : (r : Result Moment Why) (why y : Why) (s t : Model) → y ≡ why → IsErrAnd r (λ x. x ≡ y) → t.status ≡ status_of why → Next r s t
stops_with (Ok m) why y s t e h f = absurd h
stops_with (Err x) why y s t e h f = f ∙ ap status_of (sym (h ∙ e))
