-- What a run shows only grows, and what has come in is counted by every act that is fair.
use Rattle.std.proofs.Common.{◌≡◌, ℕ, zero, suc, ◌+◌, ◌≤◌, Bool, true, false, ltb, leb, List, [], ◌∷◌, ◌++◌, length, sym, refl, ap, ◌∙◌, arith}
use Rattle.std.proofs.lemmas.List.{length-append}
use Rattle.std.proofs.lemmas.Bool.{le-leb}
use Rattle.command.specs.Machine.{pick, State}
use Rattle.target.specs.Run.{Engine, Event, next, Act, starts, feeds, goes, keeps, takes_up, looks_regs, looks_words, looks_outs, looks_where, shows, done, refused, Target, World, Ran, ran, world, one_act, taken_up, slot_of, runs}
use Rattle.machine.specs.Fair.{FairAct}

module _ (go : World → Event → List (List ℕ) → ℕ → Ran) (more : (w : World) (ev : Event) (ss : List (List ℕ)) (k : ℕ) → length ss ≤ length (go w ev ss k).showed) where
  either : (b : Bool) (ss : List (List ℕ)) (r r₁ : Ran) → length ss ≤ length r.showed → length ss ≤ length r₁.showed → length ss ≤ length (pick b r r₁).showed
  either true ss r r₁ h h₁ = h
  either false ss r r₁ h h₁ = h₁

  up : (t : Target) (ss : List (List ℕ)) (k : ℕ) (m : List ℕ) (l : List State) → length ss ≤ length (taken_up go t ss k m l).showed
  unfolding taken_up
  up t ss k m [] = omega arith
  up t ss k m (s ∷ rs) = more _ _ ss k

  act_grows : (t : Target) (ss : List (List ℕ)) (k : ℕ) (m : List ℕ) (a : Act) → length ss ≤ length (one_act go t ss k m a).showed
  unfolding one_act
  act_grows t ss k m (starts is) = either (leb (length is) 4096) ss _ _ (more _ _ ss k) (omega arith)
  act_grows t ss k m (feeds vs) = more _ _ ss k
  act_grows t ss k m (goes n bs) = either (leb (length bs) 64) ss _ _ (more _ _ ss _) (omega arith)
  act_grows t ss k m (keeps j) = either (ltb j 256) ss _ _ (more _ _ ss k) (omega arith)
  act_grows t ss k m (takes_up j) = up t ss k m (slot_of t.slots j)
  act_grows t ss k m looks_regs = more _ _ ss k
  act_grows t ss k m (looks_words a n) = either (leb n 4096) ss _ _ (more _ _ ss k) (omega arith)
  act_grows t ss k m (looks_outs a n) = either (leb n 4096) ss _ _ (more _ _ ss k) (omega arith)
  act_grows t ss k m looks_where = more _ _ ss k
  act_grows t ss k m (shows s) = let h = more (world t m) next (ss ++ s ∷ []) k in omega (arith, h, length-append ss (s ∷ []))
  act_grows t ss k m done = omega arith
  act_grows t ss k m (refused j) = omega arith

pub grows : (n : ℕ) (e : Engine) (w : World) (ev : Event) (ss : List (List ℕ)) (k : ℕ) → length ss ≤ length (runs n e w ev ss k).showed
unfolding runs
grows zero e w ev ss k = omega arith
grows (suc n) e w ev ss k = act_grows (λ w₁ ev₁ ss₁ k₁. runs n e w₁ ev₁ ss₁ k₁) (λ w₁ ev₁ ss₁ k₁. grows n e w₁ ev₁ ss₁ k₁) w.target ss k _ _

-- WHAT HAS COME IN, after an act: seen by a going on that ends at once
abbrev count : Ran → ℕ
count r = length r.here.target.fed

abbrev at_once : ℕ → World → Event → List (List ℕ) → ℕ → Ran
at_once e w ev ss k = ran w ss k e

same : (b : Bool) (r r₁ : Ran) (n : ℕ) → count r ≡ n → count r₁ ≡ n → count (pick b r r₁) ≡ n
same true r r₁ n h h₁ = h
same false r r₁ n h h₁ = h₁

taken_same : (t : Target) (ss : List (List ℕ)) (l : List State) → count (taken_up (at_once 0) t ss 0 [] l) ≡ length t.fed
unfolding taken_up
taken_same t ss [] = refl
taken_same t ss (s ∷ rs) = refl

act_counts : (a : Act) (t : Target) (ss : List (List ℕ)) (f : ℕ) → FairAct a (length t.fed) f → count (one_act (at_once 0) t ss 0 [] a) ≡ f
unfolding one_act
act_counts (starts is) t ss f h = rw (le-leb (length is) 4096 h.0) (sym h.2)
act_counts (feeds vs) t ss f h = length-append t.fed vs ∙ sym h.2
act_counts (goes n bs) t ss f h = same (leb (length bs) 64) _ _ f (sym h.2) (sym h.2)
act_counts (keeps j) t ss f h = same (ltb j 256) _ _ f (sym h) (sym h)
act_counts (takes_up j) t ss f h = taken_same t ss (slot_of t.slots j) ∙ sym h
act_counts looks_regs t ss f h = sym h
act_counts (looks_words a n) t ss f h = same (leb n 4096) _ _ f (sym h) (sym h)
act_counts (looks_outs a n) t ss f h = same (leb n 4096) _ _ f (sym h) (sym h)
act_counts looks_where t ss f h = sym h
act_counts (shows s) t ss f h = sym h
act_counts done t ss f h = sym h
act_counts (refused j) t ss f h = sym h

-- a run that goes on
pub counts_on : (a : Act) (t t₁ : Target) (ss ss₁ : List (List ℕ)) (ev : Event) (by f : ℕ) →
    ((go : World → Event → List (List ℕ) → ℕ → Ran) (k : ℕ) (m : List ℕ) → one_act go t ss k m a ≡ go (world t₁ m) ev ss₁ (k + by)) →
    FairAct a (length t.fed) f → length t₁.fed ≡ f
counts_on a t t₁ ss ss₁ ev by f e h = sym (ap count (e (at_once 0) 0 [])) ∙ act_counts a t ss f h

-- and one that ends
pub counts_over : (a : Act) (t : Target) (ss : List (List ℕ)) (end f : ℕ) →
    ((go : World → Event → List (List ℕ) → ℕ → Ran) (k : ℕ) (m : List ℕ) → one_act go t ss k m a ≡ ran (world t m) ss k end) →
    FairAct a (length t.fed) f → length t.fed ≡ f
counts_over a t ss end f e h = sym (ap count (e (at_once 0) 0 [])) ∙ act_counts a t ss f h
