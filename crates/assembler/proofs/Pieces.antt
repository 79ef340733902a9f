-- A text cut behind each end of a line: its first piece has the first line, and the rest is what is past it. Assumes nothing.
use Rattle.std.proofs.Common.{◌≡◌, ℕ, zero, suc, ◌+◌, ◌-◌, Bool, true, false, cond, eqb, List, [], ◌∷◌, ◌++◌, length, get_or, take, unwrap_or, min, sym, refl, ap, ◌∙◌, subst, arith}
use Rattle.std.specs.List.{IsFirstMatchOrLen}
use Rattle.std.proofs.lemmas.List.{nil_from_length}
use Rattle.assembler.specs.Words.{past, behind, front, in_line, line_of, after_line, without_end}
use Rattle.assembler.proofs.Runs.{front_on, front_off, past_on, past_off}

after_off : (b : ℕ) (bs : List ℕ) → eqb b 10 ≡ true → after_line (b ∷ bs) ≡ bs
after_off b bs e = ap (λ u. unwrap_or (behind 10 u) u) (past_off in_line b bs (rw e)) ∙ (rw e refl)

after_on : (b : ℕ) (bs : List ℕ) → eqb b 10 ≡ false → after_line (b ∷ bs) ≡ after_line bs
after_on b bs e = ap (λ u. unwrap_or (behind 10 u) u) (past_on in_line b bs (rw e))

cut : (x r : List ℕ) (i : ℕ) → length x ≡ min (i + 1) (length (x ++ r)) → IsFirstMatchOrLen (λ b. eqb b 10) (x ++ r) i → (line_of x ≡ line_of (x ++ r)) × (r ≡ after_line (x ++ r))
unfolding past
cut [] r i k f =
    let e = nil_from_length r (omega arith) in
    (sym (ap line_of e), e ∙ sym (ap after_line e))
cut (b ∷ bs) r zero k f =
    let e : eqb b 10 ≡ true = f.1 (omega arith) 0 in
    let n = nil_from_length bs (omega arith) in
    (front_off in_line b bs (rw e) ∙ sym (front_off in_line b (bs ++ r) (rw e)), ap (λ u. u ++ r) (sym n) ∙ sym (after_off b (bs ++ r) e))
cut (b ∷ bs) r (suc j) k f =
    let e : eqb b 10 ≡ false = f.0 0 0 (omega arith) (omega arith) in
    let h = cut bs r j (omega arith) (λ m d l h. f.0 (suc m) d (omega arith) (omega arith), λ h d. f.1 (omega arith) d) in
    (front_on in_line b bs (rw e) ∙ ap (λ u. b ∷ u) h.0 ∙ sym (front_on in_line b (bs ++ r) (rw e)), h.1 ∙ sym (after_on b (bs ++ r) e))

pub piece : (t x r : List ℕ) (i : ℕ) → t ≡ x ++ r → length x ≡ min (i + 1) (length t) → IsFirstMatchOrLen (λ b. eqb b 10) t i → (line_of x ≡ line_of t) × (r ≡ after_line t)
piece t x r i e =
    subst (λ u. length x ≡ min (i + 1) (length u) → IsFirstMatchOrLen (λ b. eqb b 10) u i → (line_of x ≡ line_of u) × (r ≡ after_line u)) (sym e) (cut x r i)

first_kept : (p : Bool) (b : ℕ) (u v : List ℕ) → cond p (b ∷ u) (b ∷ v) ≡ b ∷ cond p u v
first_kept true b u v = refl
first_kept false b u v = refl

-- what stands before a piece's end stands before the end of the piece with one byte more in front
end_later : (b : ℕ) (bs : List ℕ) → eqb b 10 ≡ false → without_end (b ∷ bs) ≡ b ∷ without_end bs
end_later b [] e = rw e refl
end_later b (c ∷ bs) e =
    let n : suc (suc (length bs)) - 1 ≡ suc (length bs) = omega arith in
    let m : suc (length bs) - 1 ≡ length bs = omega arith in
    rw (n, m) (first_kept (eqb (get_or (c ∷ bs) (length bs) 0) 10) b (take (length bs) (c ∷ bs)) (c ∷ bs))

ended : (x r : List ℕ) (i : ℕ) → length x ≡ min (i + 1) (length (x ++ r)) → IsFirstMatchOrLen (λ b. eqb b 10) (x ++ r) i → without_end x ≡ line_of x
unfolding front
ended [] r i k f = refl
ended (b ∷ bs) r zero k f =
    let e : eqb b 10 ≡ true = f.1 (omega arith) 0 in
    let n = nil_from_length bs (omega arith) in
    ap (λ u. without_end (b ∷ u)) n ∙ (rw e refl) ∙ sym (front_off in_line b bs (rw e))
ended (b ∷ bs) r (suc j) k f =
    let e : eqb b 10 ≡ false = f.0 0 0 (omega arith) (omega arith) in
    let h = ended bs r j (omega arith) (λ m d l h. f.0 (suc m) d (omega arith) (omega arith), λ h d. f.1 (omega arith) d) in
    end_later b bs e ∙ ap (λ u. b ∷ u) h ∙ sym (front_on in_line b bs (rw e))

bare : (t x r : List ℕ) (i : ℕ) → t ≡ x ++ r → length x ≡ min (i + 1) (length t) → IsFirstMatchOrLen (λ b. eqb b 10) t i → without_end x ≡ line_of x
bare t x r i e =
    subst (λ u. length x ≡ min (i + 1) (length u) → IsFirstMatchOrLen (λ b. eqb b 10) u i → without_end x ≡ line_of x) (sym e) (ended x r i)

-- the first piece without its end is the first line, and the rest is what is past it
pub line : (t x r : List ℕ) (i : ℕ) → t ≡ x ++ r → length x ≡ min (i + 1) (length t) → IsFirstMatchOrLen (λ b. eqb b 10) t i → (without_end x ≡ line_of t) × (r ≡ after_line t)
line t x r i e l f = let q = piece t x r i e l f in (bare t x r i e l f ∙ q.0, q.1)
