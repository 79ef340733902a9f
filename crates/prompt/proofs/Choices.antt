-- A loop over the command words: one that is not meant, one that is spelled out, one more, the end.
use Rattle.std.proofs.Common.{◌≡◌, ℕ, ◌+◌, ◌<◌, ◌≤◌, true, false, cond, ltb, List, [], ◌∷◌, length, get_or, take, drop, Ok, Err, Result, sym, refl, ap, ◌∙◌, subst, arith}
use Rattle.std.proofs.lemmas.List.{at_drop_more, at_drop_all, length-take}
use Rattle.std.proofs.lemmas.Bool.Decides.{nat_tests}
use Rattle.std.proofs.lemmas.Slice.Eq.{bytes_eq-Decides}
use Rattle.prompt.specs.Verbs.{spelling, is_front, Fit, apart, front, whole, fits, Choice, no_verb, one, several, exact, joined, choice, Chosen}
use Rattle.prompt.specs.declared.mistakes.Expected.{Expected}
use Rattle.prompt.specs.declared.mistakes.Expected.TheVariants.{Command, MoreLetters}
use Rattle.prompt.specs.declared.verbs.Verb.{Verb}

-- what is meant by a word that spells out none of the words so far
abbrev pub Open : Choice → Type 0
Open no_verb = Unit {0}
Open (one v) = Unit {0}
Open several = Unit {0}
Open (exact v) = ⊥

exact_stays : (w : List ℕ) (vs : List Verb) (v : Verb) → choice w vs (exact v) ≡ exact v
unfolding choice
exact_stays w [] v = refl
exact_stays w (u ∷ us) v = exact_stays w us v

joined_apart : (c : Choice) (v : Verb) → joined c v apart ≡ c
joined_apart no_verb v = refl
joined_apart (one u) v = refl
joined_apart several v = refl
joined_apart (exact u) v = refl

joined_whole : (c : Choice) (v : Verb) → Open c → joined c v whole ≡ exact v
joined_whole no_verb v o = refl
joined_whole (one u) v o = refl
joined_whole several v o = refl
joined_whole (exact u) v o = absurd o

none_yet : (c : Choice) → Open c → Chosen c (Err Command) → c ≡ no_verb
none_yet no_verb o h = refl
none_yet (one u) o h = absurd (let z : ◌≡◌ {A = ℕ} 0 1 = cc in omega arith)
none_yet several o h = absurd (let z : ◌≡◌ {A = ℕ} 0 1 = cc in omega arith)
none_yet (exact u) o h = absurd o

joined_front : (c : Choice) (v : Verb) (r : Result Verb Expected) → Open c → Chosen c r → (r ≡ Err Command → ⊥) → joined c v front ≡ several
joined_front no_verb v r o h n = absurd (n h)
joined_front (one u) v r o h n = refl
joined_front several v r o h n = refl
joined_front (exact u) v r o h n = absurd o

-- what is meant so far, and with it, the words that are left give the same
abbrev pub Sofar : List ℕ → List Verb → ℕ → Result Verb Expected → Type 0
Sofar w vs i r = (c : Choice) × Open c × Chosen c r × (choice w (drop i vs) c ≡ choice w vs no_verb)

module _ (w : List ℕ) (vs : List Verb) (i : ℕ) (v : Verb) (r : Result Verb Expected) (l : i < length vs) where
  more : (c d : Choice) (f : Fit) → fits w (spelling (get_or vs i v)) ≡ f → joined c (get_or vs i v) f ≡ d → choice w (drop i vs) c ≡ choice w (drop (i + 1) vs) d
  unfolding choice
  more c d f e h =
      at_drop_more (λ us. choice w us c) vs i v l
      ∙ (ap (λ g. choice w (drop (i + 1) vs) (joined c (get_or vs i v) g)) e ∙ ap (choice w (drop (i + 1) vs)) h)

  pub passed : is_front w (spelling (get_or vs i v)) ≡ false → Sofar w vs i r → Sofar w vs (i + 1) r
  passed e p = (p.0, p.1, p.2, sym (more p.0 p.0 apart (ap (λ b. cond b (cond (ltb (length w) (length (spelling (get_or vs i v)))) front whole) apart) e) (joined_apart p.0 (get_or vs i v))) ∙ p.3)

  fronted : (s : List ℕ) → is_front w s ≡ true → (length s ≡ length w → ⊥) → fits w s ≡ front
  fronted s e n =
      let q = ap length ((bytes_eq-Decides w (take (length w) s)).0 e) in
      let h = length-take (length w) s in
      grind (arith, nat_tests, e, n, q, h)

  pub met_one : is_front w (spelling (get_or vs i v)) ≡ true → (length (spelling (get_or vs i v)) ≡ length w → ⊥) → r ≡ Err Command → Sofar w vs i r → Sofar w vs (i + 1) (Ok (get_or vs i v))
  met_one e n q p =
      let z = none_yet p.0 p.1 (subst (Chosen p.0) q p.2) in
      (one (get_or vs i v), tt, refl, sym (more p.0 (one (get_or vs i v)) front (fronted (spelling (get_or vs i v)) e n) (ap (λ c. joined c (get_or vs i v) front) z)) ∙ p.3)

  pub met_more : is_front w (spelling (get_or vs i v)) ≡ true → (length (spelling (get_or vs i v)) ≡ length w → ⊥) → (r ≡ Err Command → ⊥) → Sofar w vs i r → Sofar w vs (i + 1) (Err MoreLetters)
  met_more e n q p =
      (several, tt, refl, sym (more p.0 several front (fronted (spelling (get_or vs i v)) e n) (joined_front p.0 (get_or vs i v) r p.1 p.2 q)) ∙ p.3)

  pub spelled : is_front w (spelling (get_or vs i v)) ≡ true → length (spelling (get_or vs i v)) ≡ length w → Sofar w vs i r → Chosen (choice w vs no_verb) (Ok (get_or vs i v))
  spelled e n p =
      let s = spelling (get_or vs i v) in
      let f : fits w s ≡ whole = grind (arith, nat_tests, e, n) in
      subst (λ c. Chosen c (Ok (get_or vs i v))) (sym (exact_stays w (drop (i + 1) vs) (get_or vs i v)) ∙ (sym (more p.0 (exact (get_or vs i v)) whole f (joined_whole p.0 (get_or vs i v) p.1)) ∙ p.3)) refl

pub all_met : (w : List ℕ) (vs : List Verb) (i : ℕ) (r : Result Verb Expected) → length vs ≤ i → Sofar w vs i r → Chosen (choice w vs no_verb) r
unfolding choice
all_met w vs i r l p = subst (λ c. Chosen c r) (sym (at_drop_all (λ us. choice w us p.0) vs i l) ∙ p.3) p.2
