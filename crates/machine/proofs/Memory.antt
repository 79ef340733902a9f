-- Memory under writes: it keeps its length and its numbers stay small; what a cell holds afterwards, and which cells stay. With it, that every engine
-- that goes by plans is steady. Assumes nothing.
use Rattle.std.proofs.Common.{◌≡◌, ℕ, zero, suc, ◌%◌, ◌<◌, ◌≤◌, Bool, true, false, not, eqb, ltb, List, [], ◌∷◌, length, get_or, set, replicate, sym, refl, ap, ◌∙◌, subst, mod-lt, arith, lit<, lit≤, length-set, get_or-set_other, get_or-set_same}
use lib.ListN.{length-replicate}
use Rattle.std.proofs.lemmas.Bool.{and_parts, and_from, lt-ltb, ltb-true, eqb-true, eqb-false, not-true, both_ways}
use Rattle.command.specs.Machine.{pick, every}
use Rattle.target.specs.Run.{Steady, all_small}
use Rattle.machine.specs.Engine.{Write, written, Plan, planned, carried, own, cell, cells, limit}
use Rattle.machine.specs.Plans.{Plans, engine_of}

pub length_written : (ws : List Write) (m : List ℕ) → length (written ws m) ≡ length m
unfolding written
length_written [] m = refl
length_written (w ∷ ws) m = length_written ws (set m w.to (w.value % limit)) ∙ length-set m w.to (w.value % limit)

mod_small : (v : ℕ) → ltb (v % limit) limit ≡ true
mod_small v = lt-ltb (v % limit) limit (mod-lt v (lit< tt))

small_set : (m : List ℕ) (i v : ℕ) → all_small m ≡ true → all_small (set m i (v % limit)) ≡ true
unfolding all_small
small_set [] i v h = h
small_set (x ∷ xs) zero v h = and_from _ _ (mod_small v) (and_parts _ _ h).1
small_set (x ∷ xs) (suc i) v h = and_from _ _ (and_parts _ _ h).0 (small_set xs i v (and_parts _ _ h).1)

small_written : (ws : List Write) (m : List ℕ) → all_small m ≡ true → all_small (written ws m) ≡ true
unfolding written
small_written [] m h = h
small_written (w ∷ ws) m h = small_written ws (set m w.to (w.value % limit)) (small_set m w.to w.value h)

-- an engine is steady, whatever it plans
carried_length : (b : Bool) (p : Plan) (m : List ℕ) → length (carried b p m).memory ≡ length m
unfolding carried
carried_length true p m = length_written p.writes m
carried_length false p m = refl

carried_small : (b : Bool) (p : Plan) (m : List ℕ) → all_small m ≡ true → all_small (carried b p m).memory ≡ true
unfolding carried
carried_small true p m h = small_written p.writes m h
carried_small false p m h = h

zeros : (n : ℕ) → every (λ m. eqb m 0) (replicate n 0) ≡ true
zeros zero = refl
zeros (suc n) = zeros n

pub steady_plans : (plans : Plans) → Steady (engine_of plans)
unfolding Steady engine_of
steady_plans plans = (
  subst (λ (k : ℕ). k ≤ 32000) (sym (length-replicate {A = ℕ} cells 0)) (lit≤ tt),
  zeros cells,
  λ m ev. (carried_length (eqb (length m) cells) (plans m ev) m, carried_small (eqb (length m) cells) (plans m ev) m),
)

-- this crate's engine goes by its plans
pub own_plans : engine_of planned ≡ own
unfolding engine_of own
own_plans = refl

pub steady : Steady own
steady = subst Steady own_plans (steady_plans planned)

-- WHAT A CELL HOLDS after some writes, from what it held: for writes to closed places it computes
abbrev pub after : List Write → ℕ → ℕ → ℕ
after [] j v = v
after (w ∷ ws) j v = after ws j (pick (eqb w.to j) (w.value % limit) v)

cell_set : (m : List ℕ) (i j v : ℕ) (b : Bool) → eqb i j ≡ b → j < length m → cell (set m i v) j ≡ pick b v (cell m j)
unfolding cell
cell_set m i j v true e h = let e₁ : i ≡ j = eqb-true i j e in subst (λ (k : ℕ). get_or (set m k v) j 0 ≡ v) (sym e₁) (get_or-set_same m j v 0 h)
cell_set m i j v false e h = get_or-set_other m i j v 0 (λ q. eqb-false i j e (sym q))

cell_written : (ws : List Write) (m : List ℕ) (j : ℕ) → j < length m → cell (written ws m) j ≡ after ws j (cell m j)
unfolding written
cell_written [] m j h = refl
cell_written (w ∷ ws) m j h =
    let m₁ : List ℕ = set m w.to (w.value % limit) in
    let h₁ : j < length m₁ = subst (λ (k : ℕ). j < k) (sym (length-set m w.to (w.value % limit))) h in
    cell_written ws m₁ j h₁ ∙ ap (λ (x : ℕ). after ws j x) (cell_set m w.to j (w.value % limit) (eqb w.to j) refl h)

pub cell_put : (ws : List Write) (m : List ℕ) (j : ℕ) → length m ≡ cells → ltb j cells ≡ true → cell (written ws m) j ≡ after ws j (cell m j)
cell_put ws m j e h = cell_written ws m j (omega (arith, ltb-true j cells h, e))

-- CELLS THAT STAY: two memories that hold the same in the cells that a test names
pub record Alike (these : ℕ → Bool) (m m₁ : List ℕ) : Type 0 where
  pub size : length m₁ ≡ length m
  pub same : (j : ℕ) → these j ≡ true → cell m₁ j ≡ cell m j

pub alike_same : {these : ℕ → Bool} {m : List ℕ} → Alike these m m
alike_same = record { size = refl; same = λ j h. refl }

pub alike_then : {these : ℕ → Bool} {m m₁ m₂ : List ℕ} → Alike these m m₁ → Alike these m₁ m₂ → Alike these m m₂
alike_then a b = record { size = b.size ∙ a.size; same = λ j h. b.same j h ∙ a.same j h }

-- writes to none of these cells
abbrev pub passing : (ℕ → Bool) → List Write → Bool
passing these ws = every (λ w. not (these w.to)) ws

cell_other : (these : ℕ → Bool) (ws : List Write) (m : List ℕ) (j : ℕ) → passing these ws ≡ true → these j ≡ true → cell (written ws m) j ≡ cell m j
unfolding written cell
cell_other these [] m j p h = refl
cell_other these (w ∷ ws) m j p h =
    let q = and_parts (not (these w.to)) (passing these ws) p in
    cell_other these ws (set m w.to (w.value % limit)) j q.1 h
    ∙ get_or-set_other m w.to j (w.value % limit) 0 (λ e. both_ways (these j) (subst (λ (i : ℕ). these i ≡ false) (sym e) (not-true _ q.0)) h)

pub alike_written : {these : ℕ → Bool} (ws : List Write) (m : List ℕ) → passing these ws ≡ true → Alike these m (written ws m)
alike_written {these} ws m p = record { size = length_written ws m; same = λ j h. cell_other these ws m j p h }

pub alike_fewer : {these those : ℕ → Bool} {m m₁ : List ℕ} → ((j : ℕ) → these j ≡ true → those j ≡ true) → Alike those m m₁ → Alike these m m₁
alike_fewer f a = record { size = a.size; same = λ j h. a.same j (f j h) }
