-- What a reckoning by numbers answers. Assumes nothing: these are definitions.
use Rattle.std.specs.Prelude.{ℕ, ◌&&◌, List, [], ◌∷◌, Ok, Err, Result, nat_lt}
use Rattle.command.specs.Machine.{pick, reckoned}
use Rattle.processor.specs.declared.arith.ReckonError.{ReckonError}
use Rattle.processor.specs.declared.arith.ReckonError.TheVariants.{NoSuchOp, TooLarge, ByZero}

unfoldable pub reply_of : List ℕ → Result ℕ ReckonError
reply_of [] = Err ByZero
reply_of (v ∷ vs) = Ok v

-- refused if there is no such reckoning, or a number is 2^32 or more
unfoldable pub reckon_reply : (k a b : ℕ) → Result ℕ ReckonError
reckon_reply k a b = pick (nat_lt k 10) (pick (nat_lt a 4294967296 && nat_lt b 4294967296) (reply_of (reckoned k a b)) (Err TooLarge)) (Err NoSuchOp)

-- the numbers of the refusals; 0 is none
abbrev pub refusal_number : ReckonError → ℕ
refusal_number NoSuchOp = 1
refusal_number TooLarge = 2
refusal_number ByZero = 0

unfoldable pub refusal_of : (k a b : ℕ) → ℕ
refusal_of k a b = pick (nat_lt k 10) (pick (nat_lt a 4294967296 && nat_lt b 4294967296) 0 2) 1
