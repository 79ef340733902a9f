-- A plan of keeps is carried out by its numbers: a cell counts them, and nothing else of memory changes. What is done after them is left open.
-- Assumes nothing.
use Rattle.std.proofs.Common.{◌≡◌, ℕ, zero, suc, ◌+◌, ◌<◌, Bool, true, not, eqb, List, [], ◌∷◌, length, Some, None, Option, sym, refl, ap, ◌∙◌, subst, add-zero, mod-eq_of_lt, arith}
use Rattle.std.proofs.lemmas.Bool.{eqb-true, both_ways, not_from_false}
use Rattle.command.specs.Plain.{Plain, moved}
use Rattle.command.proofs.Picks.{by_test}
use Rattle.command.proofs.PastStays.{Runs_at}
use Rattle.command.proofs.Running.{runs_first}
use Rattle.target.specs.Run.{Event, next, Slot, Ran, world}
use Rattle.checkpoints.specs.Slots.{Table, Act, take, go, keep, Runs, act_at}
use Rattle.checkpoints.specs.Arrivals.{as_keep}
use Rattle.machine.specs.Engine.{Write, puts, written, Plan, plan, kept_or, cell, cells, cursor, limit}
use Rattle.machine.specs.Plans.{Plans}
use Rattle.machine.proofs.Memory.{cell_put, Alike, alike_then, alike_written}
use Rattle.machine.proofs.Runs.{Ends}
use Rattle.machine.proofs.Plays.{told_as, heard, plays}
use Rattle.machine.proofs.Kept.{target_of, States}
use Rattle.machine.proofs.Stands.{lasting}

-- which slot an act by number speaks of
pub no_slot : (o : Option ℕ) → None ≡ as_keep o → o ≡ None
unfolding as_keep
no_slot None e = refl
no_slot (Some k) e = cc

pub the_slot : (o : Option ℕ) (j : ℕ) → Some (keep j) ≡ as_keep o → o ≡ Some j
unfolding as_keep
the_slot None j e = cc
the_slot (Some k) j e = cc

pub no_take : (o : Option ℕ) (k x : ℕ) → Some (take k x) ≡ as_keep o → ⊥
unfolding as_keep
no_take None k x e = let z : zero ≡ suc zero = cc in omega (arith, z)
no_take (Some j) k x e = let z : zero ≡ suc zero = cc in omega (arith, z)

pub no_go : (o : Option ℕ) (n : ℕ) → Some (go n) ≡ as_keep o → ⊥
unfolding as_keep
no_go None n e = let z : zero ≡ suc zero = cc in omega (arith, z)
no_go (Some j) n e = let z : zero ≡ suc zero = cc in omega (arith, z)

-- all cells but the one that counts
abbrev pub uncounted : ℕ → Bool
uncounted j = not (eqb j cursor)

-- what lasts is not the count
pub lasting_uncounted : (j : ℕ) → lasting j ≡ true → uncounted j ≡ true
lasting_uncounted j h =
    by_test (eqb j cursor)
    (λ e. absurd (both_ways (lasting cursor) refl (ap lasting (sym (eqb-true j cursor e)) ∙ h)))
    (λ e. not_from_false (eqb j cursor) e)

-- the cells but the count are as in m₀, the next act is number i, and these are left
pub record Counting (m₀ : List ℕ) (slot_at : ℕ → Option ℕ) (left : List Act) (m : List ℕ) (ev : Event) : Type 0 where
  pub number : ℕ
  pub alike : Alike uncounted m₀ m
  pub hears : ev ≡ next
  pub count_is : cell m cursor ≡ number
  pub low : number + length left < limit
  pub so : (j : ℕ) → act_at left j ≡ as_keep (slot_at (number + j))

module _ (plans : Plans) (b : ℕ) (P : Ran → Type 0) (w : Plain) (t : ℕ) (running : Runs_at w t) (m₀ : List ℕ) (sized : length m₀ ≡ cells)
    (slot_at : ℕ → Option ℕ) (then : Plan) (R : Table → Type 0) (ss : List (List ℕ)) (steps : ℕ)
    (next_is : (m : List ℕ) → Alike uncounted m₀ m → plans m next ≡ kept_or (slot_at (cell m cursor)) (puts cursor (suc (cell m cursor)) ∷ []) then)
    (after_all : (sl : List Slot) (m : List ℕ) (T : Table) → Alike uncounted m₀ m → States w sl T → R T → plans m next ≡ then →
    Ends plans b P (world (target_of (moved w t) sl) m) next ss steps) where
  abbrev Mid : List Act → List ℕ → Event → Type 0
  Mid left m ev = Counting m₀ slot_at left m ev

  -- the next one by its number
  by_number : (left : List Act) (m : List ℕ) (ev : Event) (h : Mid left m ev) (o : Option ℕ) → slot_at h.number ≡ o →
      plans m ev ≡ kept_or o (puts cursor (suc (cell m cursor)) ∷ []) then
  by_number left m ev h o e =
      let c = h.count_is in
      ap (plans m) h.hears ∙ next_is m h.alike ∙ (λ i. kept_or (slot_at (c i)) (puts cursor (suc (cell m cursor)) ∷ []) then)
      ∙ (λ i. kept_or (e i) (puts cursor (suc (cell m cursor)) ∷ []) then)

  first_of : (left : List Act) (m : List ℕ) (ev : Event) (h : Mid left m ev) → act_at left 0 ≡ as_keep (slot_at h.number)
  first_of left m ev h = h.so 0 ∙ ap (λ (x : ℕ). as_keep (slot_at x)) (add-zero h.number)

  tells : (x : Act) (left : List Act) (m : List ℕ) (ev : Event) → Mid (x ∷ left) m ev →
      (ws : List Write) × (plans m ev ≡ plan ws (told_as x)) × Mid left (written ws m) (heard x)
  unfolding act_at kept_or
  tells (take k x) left m ev h = absurd (no_take _ k x (first_of _ m ev h))
  tells (go n) left m ev h = absurd (no_go _ n (first_of _ m ev h))
  tells (keep j) left m ev h =
      let ws : List Write = puts cursor (suc (cell m cursor)) ∷ [] in
      let i : ℕ = h.number in (
        ws,
        by_number _ m ev h (Some j) (the_slot _ j (first_of _ m ev h)),
        record {
          number = suc i;
          alike = alike_then h.alike (alike_written ws m refl);
          hears = refl;
          count_is = cell_put ws m cursor (h.alike.size ∙ sized) refl ∙ mod-eq_of_lt (omega (arith, h.count_is, h.low)) ∙ ap suc h.count_is;
          low = omega (arith, h.low);
          so = λ n. h.so (suc n) ∙ ap (λ (x : ℕ). as_keep (slot_at x)) (shifts i n);
        },
      )
    where
      shifts : (x y : ℕ) → x + suc y ≡ suc x + y
      shifts x y = omega arith

  all_told : (sl : List Slot) (m : List ℕ) (ev : Event) (T : Table) (a c : ℕ) → Mid [] m ev → States w sl T → Runs_at w a → (a ≡ t) × (c ≡ 0) × R T →
      Ends plans b P (world (target_of (moved w a) sl) m) ev ss (steps + c)
  unfolding act_at kept_or
  all_told sl m ev T a c h s r (at_t, no_step, q) =
      let k : steps ≡ steps + c = omega (arith, no_step) in
      subst (λ (x : ℕ). Ends plans b P (world (target_of (moved w a) sl) m) ev ss x) k
      (subst (λ (x : Event). Ends plans b P (world (target_of (moved w a) sl) m) x ss steps) (sym h.hears)
      (subst (λ (x : ℕ). Ends plans b P (world (target_of (moved w x) sl) m) next ss steps) (sym at_t)
      (after_all sl m T h.alike s q (ap (plans m) (sym h.hears) ∙ by_number [] m ev h None (no_slot _ (first_of [] m ev h))))))

  -- from number i on, with these acts left
  pub keeps_all : (left : List Act) (i : ℕ) (T : Table) (sl : List Slot) (m : List ℕ) → i + length left < limit → Runs 0 left T t 0 (λ T' a' c'. (a' ≡ t) × (c' ≡ 0) × R T') →
      ((j : ℕ) → act_at left j ≡ as_keep (slot_at (i + j))) → Alike uncounted m₀ m → cell m cursor ≡ i → States w sl T →
      Ends plans (length left + b) P (world (target_of (moved w t) sl) m) next ss steps
  keeps_all left i T sl m low r so a e s =
      subst (λ (x : ℕ). Ends plans (length left + b) P (world (target_of (moved w t) sl) m) next ss x) (add-zero steps)
      (plays plans b P w 0 (runs_first w.program w.ins) (λ T' a' c'. (a' ≡ t) × (c' ≡ 0) × R T') ss steps Mid
      (λ left₁ m₁ ev h. h.alike.size ∙ sized) tells all_told left T t 0 sl m next r
      (record { number = i; alike = a; hears = refl; count_is = e; low = low; so = so }) s running)
