-- Going on in strides comes as far as going on at once. Assumes nothing.
use Rattle.std.proofs.Common.{◌≡◌, ℕ, zero, suc, ◌+◌, ◌-◌, ◌<◌, ◌≤◌, List, [], sym, refl, ap, ◌∙◌, subst, arith}
use Rattle.command.specs.Machine.{Instr, State, is_running, step}
use Rattle.command.proofs.Picks.{by_test}
use Rattle.target.specs.Run.{Target, Came, with_state, going}
use Rattle.session.specs.Does.{gone, Went}

module _ (is : List Instr) (ins : List ℕ) where
  -- cut after some steps, it goes on from there by the others
  pub cut : (c l : ℕ) (s : State) (k j : ℕ) → c ≤ l →
      (i : ℕ) × (i ≤ c) × ((going c is ins [] s k).by ≡ k + i) × (going l is ins [] s j ≡ going (l - i) is ins [] (going c is ins [] s k).state (j + i))
  unfolding going
  cut zero l s k j h = (
    0,
    omega arith,
    omega arith,
    let e : l ≡ l - 0 = omega arith in let d : j ≡ j + 0 = omega arith in ap (λ x. going x is ins [] s j) e ∙ ap (λ x. going (l - 0) is ins [] s x) d,
  )
  cut (suc c) zero s k j h = absurd (omega arith)
  cut (suc c) (suc l) s k j h =
      by_test (is_running (step is ins s).status)
      (λ r.
      let e = cut c l (step is ins s) (suc k) (suc j) (omega arith) in
      let n : l - e.0 ≡ suc l - suc e.0 = omega arith in
      let d : suc j + e.0 ≡ j + suc e.0 = omega arith in
      let b : suc k + e.0 ≡ k + suc e.0 = omega arith in (
        suc e.0,
        omega (arith, e.1),
        simp r (e.2 ∙ b),
        simp r
            (e.3
            ∙ (ap (λ x. going x is ins [] (going c is ins [] (step is ins s) (suc k)).state (suc j + e.0)) n
            ∙ ap (λ x. going (suc l - suc e.0) is ins [] (going c is ins [] (step is ins s) (suc k)).state x) d)),
      ))
      (λ r.
      let d : j ≡ j + 0 = omega arith in
      let b : k ≡ k + 0 = omega arith in
      let n : suc l ≡ suc l - 0 = omega arith in
      let o : (going (suc c) is ins [] s k).state ≡ s = simp r refl in (
        0,
        omega arith,
        simp r b,
        ap (λ x. going (suc l) is ins [] s x) d
            ∙ (ap (λ x. going x is ins [] s (j + 0)) n ∙ ap (λ (x : State). going (suc l - 0) is ins [] x (j + 0)) (sym o)),
      ))

  -- by as many steps as it went of those it might have gone, it comes to the same
  pub just : (c : ℕ) (s : State) (k j : ℕ) →
      (i : ℕ) × (i ≤ c) × ((going c is ins [] s k).by ≡ k + i) × ((going i is ins [] s j).state ≡ (going c is ins [] s k).state) × ((going i is ins [] s j).by ≡ j + i)
  unfolding going
  just zero s k j = (0, omega arith, omega arith, refl, omega arith)
  just (suc c) s k j =
      by_test (is_running (step is ins s).status)
      (λ r.
      let e = just c (step is ins s) (suc k) (suc j) in
      let b : suc k + e.0 ≡ k + suc e.0 = omega arith in
      let d : suc j + e.0 ≡ j + suc e.0 = omega arith in (suc e.0, omega (arith, e.1), simp r (e.2 ∙ b), simp r e.3, simp r (e.4 ∙ d)))
      (λ r. let b : k ≡ k + 0 = omega arith in let d : j ≡ j + 0 = omega arith in (0, omega arith, simp r b, simp r refl, d))

  -- where it went by no step, it never will
  pub stuck : (c l : ℕ) (s : State) (j : ℕ) → 0 < c → (going c is ins [] s 0).by ≡ 0 → ((going l is ins [] s j).state ≡ s) × ((going l is ins [] s j).by ≡ j)
  unfolding going
  stuck zero l s j p e = absurd (omega arith)
  stuck (suc c) zero s j p e = (refl, refl)
  stuck (suc c) (suc l) s j p e =
      by_test (is_running (step is ins s).status)
      (λ r. let f = just c (step is ins s) 1 0 in let h = simp r at e in absurd (omega (arith, f.2, h)))
      (λ r. (simp r refl, simp r refl))

-- after going as many steps as were asked for, it goes on from there
sums : (m l : ℕ) (t : Target) → m ≤ l → (gone m t).by ≡ m → gone l t ≡ going (l - m) t.program t.fed [] (gone m t).state m
sums m l t h e =
    let f = cut t.program t.fed m l t.state 0 0 h in
    let i : f.0 ≡ m = omega (arith, f.2, e) in
    let z : 0 + f.0 ≡ m = omega (arith, i) in
    f.3
    ∙ (ap (λ x. going (l - x) t.program t.fed [] (gone m t).state (0 + f.0)) i ∙ ap (λ x. going (l - m) t.program t.fed [] (gone m t).state x) z)

module _ (before mid after : Target → Type 0) where
  -- one stride more
  pub went_on : (m c b : ℕ) → Went m before mid m → Went c mid after b → Went (m + b) before after (m + b)
  went_on m c b f g t h =
      let p = f t h in
      let q = g (with_state t (gone m t).state) p.0 in
      let w = just t.program t.fed c (gone m t).state 0 m in
      let i : w.0 ≡ b = omega (arith, w.2, q.1) in
      let d : m + b - m ≡ w.0 = omega (arith, i) in
      let e = sums m (m + b) t (omega arith) p.1 ∙ ap (λ x. going x t.program t.fed [] (gone m t).state m) d in (
        subst (λ (x : State). after (with_state t x)) (sym w.3 ∙ sym (ap (λ (x : Came). x.state) e)) q.0,
        ap (λ (x : Came). x.by) e ∙ (w.4 ∙ ap (λ x. m + x) i),
      )

  -- no step more
  pub went_stuck : (m c n : ℕ) → 0 < c → m ≤ n → Went m before mid m → Went c mid after 0 → Went n before after m
  went_stuck m c n p l f g t h =
      let q = f t h in
      let r = g (with_state t (gone m t).state) q.0 in
      let v = stuck t.program t.fed c c (gone m t).state 0 p r.1 in
      let w = stuck t.program t.fed c (n - m) (gone m t).state m p r.1 in
      let e = sums m n t l q.1 in (
        subst (λ (x : State). after (with_state t x)) (v.0 ∙ (sym w.0 ∙ sym (ap (λ (x : Came). x.state) e))) r.0,
        ap (λ (x : Came). x.by) e ∙ w.1,
      )

-- before the first
pub went_none : (like : Target → Type 0) → Went 0 like like 0
unfolding going
went_none like t h = (h, refl)

-- and where nothing changed
pub went_same : (before mid after : Target → Type 0) (n by : ℕ) → Went n before mid by → ((t : Target) → mid t → after t) → Went n before after by
went_same before mid after n by f g t h = (g _ (f t h).0, (f t h).1)

-- never more than were asked for
pub gone_few : (n : ℕ) (t : Target) → (gone n t).by ≤ n
gone_few n t = let w = just t.program t.fed n t.state 0 0 in omega (arith, w.1, w.2)
