-- Listings, line by line. Assumes nothing.
use Rattle.std.proofs.Common.{◌≡◌, ℕ, ◌+◌, ◌<◌, List, [], ◌∷◌, ◌++◌, length, get_or, take, sym, ap, ◌∙◌, append_assoc, append-nil}
use Rattle.std.proofs.lemmas.List.{take_more}
use Rattle.command.specs.Codes.{code, codes}
use Rattle.command.specs.Machine.{each, flat}
use Rattle.command.specs.declared.code.Instr.{Instr as Code}
use Rattle.assembler.specs.Listing.{instr_line, listing}

flat_push : {A B C : Type 0} (f : B → List C) (g : A → B) (xs : List A) (y : A) → flat f (each g (xs ++ y ∷ [])) ≡ flat f (each g xs) ++ f (g y)
flat_push f g [] y = append-nil (f (g y))
flat_push f g (x ∷ xs) y = ap (λ u. f (g x) ++ u) (flat_push f g xs y) ∙ sym (append_assoc (f (g x)) (flat f (each g xs)) (f (g y)))

pub listing_more : (ps : List Code) (i : ℕ) (x : Code) → i < length ps → x ≡ get_or ps i x
    → listing (codes (take (i + 1) ps)) ≡ listing (codes (take i ps)) ++ instr_line (code x)
listing_more ps i x h e =
    ap (λ u. listing (codes u)) (take_more ps i x h) ∙ ap (λ (k : Code). listing (codes (take i ps ++ k ∷ []))) (sym e) ∙ flat_push instr_line code (take i ps) x
