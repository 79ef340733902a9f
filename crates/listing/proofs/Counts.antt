-- Widths and blanks. Assumes nothing.
use Rattle.std.proofs.Common.{◌≡◌, ℕ, suc, ◌+◌, ◌-◌, ◌<◌, ◌≤◌, true, List, [], ◌∷◌, ◌++◌, length, is_ok, Some, None, Option, Result, sym, ap, arith, length-append}
use Rattle.std.specs.List.{FoldsTo, concat}
use Rattle.std.specs.Fmt.{IsPlainFormatter, DisplaysOnOk}
use Rattle.std.specs.declared.fmt.Error.{Error}
use Rattle.std.specs.declared.fmt.Formatter.{Formatter}
use Rattle.command.specs.Machine.{so_many}
use Rattle.listing.specs.Columns.{Wide, blanks}
use Rattle.listing.specs.declared.columns.Counter.{Counter}

abbrev Counts : Counter → List ℕ → Counter → Type 0
Counts c bs d = d.bytes ≡ c.bytes + length bs

counts_all : (c : Counter) (ts : List (List ℕ)) (d : Counter) → FoldsTo Counts c ts d → d.bytes ≡ c.bytes + length (concat ts)
counts_all c [] d p = let e : d.bytes ≡ c.bytes = ap (λ (k : Counter). k.bytes) (sym p) in omega arith
counts_all c (t ∷ ts) d p =
    let e : p.0.bytes ≡ c.bytes + length t = p.1 in
    let r : d.bytes ≡ p.0.bytes + length (concat ts) = counts_all p.0 ts d p.2 in
    omega (arith, length-append t (concat ts))

-- what the counter holds after a text
pub wide : (f g : Formatter Counter) (r : Result (Unit {0}) Error) (o : Option (List ℕ)) → IsPlainFormatter f → is_ok r ≡ true → f.writer.bytes ≡ 0 → DisplaysOnOk Counts f r o g
    → Wide o g.writer.bytes
wide f g r None plain ok z s = tt
wide f g r (Some bs) plain ok z s =
    let p = (s plain ok).wrote in
    let e = counts_all f.writer p.parts g.writer p.calls in
    let l : length (concat p.parts) ≡ length bs = ap length p.whole in
    omega arith

pub blank_more : (n i : ℕ) → i < n → blanks (n - i) ≡ (32 ∷ []) ++ blanks (n - (i + 1))
unfolding so_many
blank_more n i h = let e : n - i ≡ suc (n - (i + 1)) = omega arith in ap blanks e

pub blank_end : (n i : ℕ) → n ≤ i → blanks (n - i) ≡ []
unfolding so_many
blank_end n i h = let e : n - i ≡ 0 = omega arith in ap blanks e
