-- What an act makes of a target, from what the processor promises of it. Assumes nothing.
use Rattle.std.proofs.Common.{◌≡◌, ℕ, ◌≤◌, Bool, true, List, [], ◌∷◌, take, drop, is_err, Ok, Err, Result, sym, ap, subst, arith}
use Rattle.std.proofs.lemmas.Bool.{le-leb}
use Rattle.target.specs.Run.{Event, said, came, saw, next, feeds, goes, looks_words, looks_outs, Target, World, Ran, ran, words_of, one_act}
use Rattle.target.specs.Acts.{Does}
use Rattle.session.specs.declared.debugger.Refusal.{Refusal}
use Rattle.session.specs.Does.{Went, Later, Forwards, fed_with}

abbrev numbers_of : Event → List ℕ
numbers_of (said ns) = ns
numbers_of (came n h w) = []
numbers_of (saw ns) = ns
numbers_of next = []

-- a run that ends after the act, with what was seen
abbrev ends : World → Event → List (List ℕ) → ℕ → Ran
ends w ev ss k = ran w (numbers_of ev ∷ []) k 0

abbrev first : List (List ℕ) → List ℕ
first [] = []
first (ns ∷ nss) = ns

module _ (before after : Target → Type 0) where
  pub fed_by : (vs : List ℕ) → Does (feeds vs) next 0 before after → (t : Target) → before t → after (fed_with t vs)
  unfolding one_act
  fed_by vs d t b = let h = d t b in subst after (sym (ap (λ (r : Ran). r.here.target) (h.2 ends [] 0 []))) h.1

  pub went_by : (n by : ℕ) (hit : Bool) (why : ℕ) → Does (goes n []) (came by hit why) by before after → Went n before after by
  unfolding one_act
  went_by n by hit why d t b =
      let h = d t b in
      let e = h.2 ends [] 0 [] in
      let k = ap (λ (r : Ran). r.steps) e in (subst after (sym (ap (λ (r : Ran). r.here.target) e)) h.1, omega (arith, k))

module _ (like : Target → Type 0) where
  pub words_by : (a n : ℕ) (vs : List ℕ) → n ≤ 4096 → Does (looks_words a n) (saw vs) 0 like like → (t : Target) → like t → words_of t a n ≡ vs
  unfolding one_act
  words_by a n vs l d t b = let e = (d t b).2 ends [] 0 [] in ap (λ (r : Ran). first r.showed) (simp (le-leb n 4096 l) at e)

  pub outs_by : (a n : ℕ) (vs : List ℕ) → n ≤ 4096 → Does (looks_outs a n) (saw vs) 0 like like → (t : Target) → like t → take n (drop a t.state.out) ≡ vs
  unfolding one_act
  outs_by a n vs l d t b = let e = (d t b).2 ends [] 0 [] in ap (λ (r : Ran). first r.showed) (simp (le-leb n 4096 l) at e)

-- what was gone before the processor failed
pub failed : (n : ℕ) (before after : Target → Type 0) (time time₁ : ℕ) (r : Result ℕ Refusal) → is_err r ≡ true
    → (m : ℕ) → m ≤ n → Later time m time₁ → Went m before after m → Forwards n before after time time₁ r
failed n before after time time₁ (Ok by) e m l t w = absurd (let z : ◌≡◌ {A = ℕ} 0 1 = cc in omega arith)
failed n before after time time₁ (Err x) e m l t w = (m, l, t, w)
