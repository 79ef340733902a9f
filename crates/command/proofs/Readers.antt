-- Readers that are exact: what is read was written so, and what is written so is read. One law for each way of making readers.
use Rattle.std.proofs.Common.{◌≡◌, ℕ, zero, suc, Bool, true, false, ◌&&◌, eqb, List, [], ◌∷◌, ◌++◌, length, sym, refl, ap, ◌∙◌, subst, append_assoc}
use Rattle.std.proofs.lemmas.Bool.{and_from, and_parts, eqb-true}
use Rattle.command.specs.Machine.{pick, every, flat}
use Rattle.command.specs.Reader.{Got, nothing, got, Reader, bind, only, empty, first, byte, both, as_a, so_many, Way, way, one_of, by_first}

module _ {A : Type 0} (w : A → List ℕ) (ok : A → Bool) where
  -- if something was read from a text, it was written at its front, and is as it should be
  abbrev pub Right : List ℕ → Got A → Type 0
  Right t nothing = Unit {0}
  Right t (got a u) = (w a ++ u ≡ t) × (ok a ≡ true)

  pub record Exact (r : Reader A) : Type 0 where
    pub back : (t : List ℕ) → Right t (r t)
    pub forth : (a : A) (u : List ℕ) → ok a ≡ true → r (w a ++ u) ≡ got a u

module _ {A B : Type 0} where
  pub bind_at : {g : Got A} {a : A} {u : List ℕ} (k : A → Reader B) → g ≡ got a u → bind g k ≡ k a u
  bind_at k e = ap (λ x. bind x k) e

  -- what was read in two goes
  pub right_bind : (w : A → List ℕ) (ok : A → Bool) (w' : B → List ℕ) (ok' : B → Bool) (t : List ℕ) (g : Got A) (k : A → Reader B)
      → Right w ok t g → ((a : A) (u : List ℕ) → w a ++ u ≡ t → ok a ≡ true → Right w' ok' t (k a u)) → Right w' ok' t (bind g k)
  right_bind w ok w' ok' t nothing k h f = tt
  right_bind w ok w' ok' t (got a u) k h f = f a u h.0 h.1

-- a test, by which what is written is right
module _ {A : Type 0} (w : A → List ℕ) (ok p : A → Bool) (enough : (a : A) → p a ≡ true → ok a ≡ true) where
  only_right : (t : List ℕ) (g : Got A) → Right w ok t g → Right w p t (only p g)
  only_right t nothing h = tt
  only_right t (got a u) h = go (p a) refl
    where
      go : (b : Bool) → p a ≡ b → Right w p t (pick b (got a u) nothing)
      go true e = (h.0, e)
      go false e = tt

  pub exact_only : {r : Reader A} → Exact w ok r → Exact w p (λ t. only p (r t))
  exact_only {r} e =
      record {
        back = λ t. only_right t (r t) (e.back t);
        forth = λ a u h. ap (only p) (e.forth a u (enough a h)) ∙ ap (λ b. pick b (got a u) nothing) h;
      }

abbrev pub one : ℕ → List ℕ
one b = b ∷ []

abbrev pub always : {A : Type 0} → A → Bool
always a = true

exact_first : Exact one always first
unfolding first
exact_first = record { back = back'; forth = λ a u h. refl }
  where
    back' : (t : List ℕ) → Right one always t (first t)
    back' [] = tt
    back' (b ∷ t) = (refl, refl)

pub exact_byte : (p : ℕ → Bool) → Exact one p (byte p)
exact_byte p = exact_only one always p (λ a h. refl) exact_first

abbrev pub none_written : Unit {0} → List ℕ
none_written u = []

pub exact_empty : Exact none_written always empty
exact_empty = record { back = λ t. (refl, refl); forth = λ a u h. refl }

-- one thing and then another
module _ {A B : Type 0} (w : A → List ℕ) (ok : A → Bool) (w' : A → B → List ℕ) (ok' : A → B → Bool) where
  abbrev pub w_both : A × B → List ℕ
  w_both p = w p.0 ++ w' p.0 p.1

  abbrev pub ok_both : A × B → Bool
  ok_both p = ok p.0 && ok' p.0 p.1

  pub exact_both : {r : Reader A} {s : A → Reader B} → Exact w ok r → ((a : A) → Exact (w' a) (ok' a) (s a)) → Exact w_both ok_both (both r s)
  exact_both {r} {s} e f =
      record {
        back = λ t.
            right_bind w ok w_both ok_both t (r t) _ (e.back t) (λ a u h o.
            again t a u h o (s a u) ((f a).back u));
        forth = λ p u h.
            let o = and_parts _ _ h in
            ap (both r s) (append_assoc (w p.0) (w' p.0 p.1) u)
            ∙ (bind_at _ (e.forth p.0 (w' p.0 p.1 ++ u) o.0) ∙ bind_at _ ((f p.0).forth p.1 u o.1));
      }
    where
      again : (t : List ℕ) (a : A) (u : List ℕ) → w a ++ u ≡ t → ok a ≡ true → (g : Got B) → Right (w' a) (ok' a) u g
          → Right w_both ok_both t (bind g (λ b v. got (a, b) v))
      again t a u h o nothing x = tt
      again t a u h o (got b v) x = (append_assoc (w a) (w' a b) v ∙ (ap (λ l. w a ++ l) x.0 ∙ h), and_from _ _ o x.1)

-- another form of the same
module _ {A B : Type 0} {w : A → List ℕ} {ok : A → Bool} (w' : B → List ℕ) (ok' : B → Bool) (f : A → B)
    (same_w : (a : A) → w' (f a) ≡ w a) (same_ok : (a : A) → ok' (f a) ≡ ok a) where
  pub exact_as : (g : B → A) → ((b : B) → ok' b ≡ true → f (g b) ≡ b) → {r : Reader A} → Exact w ok r → Exact w' ok' (as_a f r)
  exact_as g fg {r} e =
      record {
        back = λ t. right_bind w ok w' ok' t (r t) _ (e.back t) (λ a u h o. (ap (λ l. l ++ u) (same_w a) ∙ h, same_ok a ∙ o));
        forth = λ b u h.
            let s = fg b h in
            ap (λ l. as_a f r (l ++ u)) (ap w' (sym s) ∙ same_w (g b))
            ∙ (bind_at _ (e.forth (g b) u (sym (same_ok (g b)) ∙ (ap ok' s ∙ h))) ∙ ap (λ x. got x u) s);
      }

-- so many things
module _ {A : Type 0} (w : A → List ℕ) (ok : A → Bool) where
  -- there are as many as were asked for
  abbrev pub Rights : ℕ → List ℕ → Got (List A) → Type 0
  Rights n t nothing = Unit {0}
  Rights n t (got xs u) = (length xs ≡ n) × (flat w xs ++ u ≡ t) × (every ok xs ≡ true)

module _ {A : Type 0} (w : A → List ℕ) (ok : A → Bool) {r : Reader A} (e : Exact w ok r) where
  more : (n : ℕ) (t : List ℕ) (g : Got A) → Right w ok t g → ((u : List ℕ) → Rights w ok n u (so_many r n u))
      → Rights w ok (suc n) t (bind g (λ a u. bind (so_many r n u) (λ xs v. got (a ∷ xs) v)))
  more n t nothing x again = tt
  more n t (got a u) x again = go (so_many r n u) (again u)
    where
      go : (g : Got (List A)) → Rights w ok n u g → Rights w ok (suc n) t (bind g (λ xs v. got (a ∷ xs) v))
      go nothing y = tt
      go (got xs v) y = (ap suc y.0, append_assoc (w a) (flat w xs) v ∙ (ap (λ l. w a ++ l) y.1 ∙ x.0), and_from _ _ x.1 y.2)

  pub so_many_back : (n : ℕ) (t : List ℕ) → Rights w ok n t (so_many r n t)
  unfolding so_many
  so_many_back zero t = (refl, refl, refl)
  so_many_back (suc n) t = more n t (r t) (e.back t) (so_many_back n)

  pub so_many_forth : (xs : List A) (u : List ℕ) → every ok xs ≡ true → so_many r (length xs) (flat w xs ++ u) ≡ got xs u
  unfolding so_many
  so_many_forth [] u h = refl
  so_many_forth (x ∷ xs) u h =
      let o = and_parts _ _ h in
      ap (so_many r (suc (length xs))) (append_assoc (w x) (flat w xs) u)
      ∙ (bind_at _ (e.forth x (flat w xs ++ u) o.0) ∙ bind_at _ (so_many_forth xs u o.1))

-- one of several, by the first number: each way is right of what it makes
module _ {A : Type 0} (w : A → List ℕ) (ok : A → Bool) where
  abbrev pub WayRight : Way A → Type 0
  WayRight x = (t : List ℕ) → Right w ok (x.tag ∷ t) (x.then t)

  abbrev pub WaysRight : List (Way A) → Type 0
  WaysRight [] = Unit {0}
  WaysRight (x ∷ xs) = WayRight x × WaysRight xs

  pub one_of_right : (ways : List (Way A)) → WaysRight ways → (k : ℕ) (t : List ℕ) → Right w ok (k ∷ t) (one_of ways k t)
  one_of_right [] h k t = tt
  one_of_right (x ∷ xs) h k t = go (one_of_right xs h.1 k t) (eqb k x.tag) refl
    where
      go : Right w ok (k ∷ t) (one_of xs k t) → (b : Bool) → eqb k x.tag ≡ b → Right w ok (k ∷ t) (pick b (x.then t) (one_of xs k t))
      go others true e = subst (λ (j : ℕ). Right w ok (j ∷ t) (x.then t)) (sym (eqb-true k x.tag e)) (h.0 t)
      go others false e = others

  pub by_first_right : (ways : List (Way A)) → WaysRight ways → (t : List ℕ) → Right w ok t (by_first ways t)
  unfolding first
  by_first_right ways h [] = tt
  by_first_right ways h (k ∷ t) = one_of_right ways h k t

  -- a way that makes a value of what an exact reader reads
  pub way_as : {B : Type 0} {v : B → List ℕ} {fine : B → Bool} {r : Reader B} (k : ℕ) (f : B → A) → Exact v fine r
      → ((b : B) → w (f b) ≡ k ∷ v b) → ((b : B) → ok (f b) ≡ fine b) → WayRight (way k (as_a f r))
  way_as {B} {v} {fine} {r} k f e same_w same_ok t =
      go (r t) (e.back t)
    where
      go : (g : Got B) → Right v fine t g → Right w ok (k ∷ t) (bind g (λ b u. got (f b) u))
      go nothing h = tt
      go (got b u) h = (ap (λ l. l ++ u) (same_w b) ∙ ap (λ l. k ∷ l) h.0, same_ok b ∙ h.1)
