-- What a `?` hands on as an error. Assumes nothing.
use Rattle.std.proofs.Common.{◌≡◌, Some, None, Option, Ok, Err, Result, sym, refl, ◌∙◌, subst}
use Rattle.std.specs.Option.{ok_or}
use Rattle.std.specs.Result.{IsErrAnd}

-- it is the error that the call had
pub refused : {T E : Type 0} (r : Result T E) (f g : E) (P : Result T E → Type 0) → f ≡ g → IsErrAnd r (λ y. y ≡ f) → P (Err g) → P r
refused (Ok x) f g P e h p = absurd h
refused (Err y) f g P e h p = subst (λ z. P (Err z)) (sym (h ∙ e)) p

-- the error for nothing stands where there is nothing
pub none_fault : {T E : Type 0} (o : Option T) (f g : E) → ok_or o g ≡ Err f → (o ≡ None) × (f ≡ g)
none_fault None f g e = (refl, cc)
none_fault (Some x) f g e = absurd cc
