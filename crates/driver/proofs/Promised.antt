-- The promise on what is said: from a session that stands for a plain debugger to the next one.
use Rattle.std.proofs.Common.{◌≡◌, ℕ, suc, ◌≤◌, Bool, true, false, List, [], ◌∷◌, length, replicate, Ok, Err, Result, sym, ap, ◌∙◌, subst, inl, inr, arith}
use lib.ListN.{get_or-replicate}
use Rattle.command.specs.Machine.{pick, eight}
use Rattle.command.specs.Plain.{Command, load, give, forward, back, run, rerun, changer, add_break, drop_break, where_now, registers, words_from, outs_from, core, Plain, turn, no, yes_with, changer_turn, last_change}
use Rattle.target.specs.Run.{said, Target, Ran, world, runs, fresh_target}
use Rattle.machine.specs.Engine.{own, cell, fed}
use Rattle.machine.specs.Promise.{May, Holds, Holding, most_turns, first_plain}
use Rattle.machine.proofs.Whole.{holding_core}
use Rattle.driver.specs.Refusals.{refusal_number}
use Rattle.driver.specs.Says.{EndedAs, Went, Stands, AnsweredAs, Answered}
use Rattle.driver.specs.declared.refusal.SayError.{SayError}
use Rattle.driver.specs.declared.refusal.SayError.TheVariants as error

-- NO COMMAND SHOWS more than one text
module _ (b : Bool) (k : ℕ) (w w₁ : Plain) where
  few_refused : (ss : List (List ℕ)) → length ss ≤ 1 → length (pick b (no k w) (yes_with ss w₁)).shows ≤ 1
  few_refused ss h = by_either b
    where
      by_either : (b : Bool) → length (pick b (no k w) (yes_with ss w₁)).shows ≤ 1
      by_either true = omega arith
      by_either false = h

  few_done : length (pick b (yes_with [] w₁) (no k w)).shows ≤ 1
  few_done = by_either b
    where
      by_either : (b : Bool) → length (pick b (yes_with [] w₁) (no k w)).shows ≤ 1
      by_either true = omega arith
      by_either false = omega arith

changer_few : (w : Plain) (ts : List ℕ) → length (changer_turn w ts).shows ≤ 1
unfolding changer_turn
changer_few w [] = omega arith
changer_few w (t ∷ ts) = omega arith

turn_few : (w : Plain) (c : Command) → length (turn w c).shows ≤ 1
unfolding turn
turn_few w (load is) = omega arith
turn_few w (give vs) = few_refused _ _ _ _ [] (omega arith)
turn_few w (forward n) = omega arith
turn_few w (back n) = omega arith
turn_few w (run n) = omega arith
turn_few w (rerun n) = omega arith
turn_few w (changer a) = changer_few w (last_change w a w.now)
turn_few w (add_break b) = few_refused _ _ _ _ (eight w.next ∷ []) (omega arith)
turn_few w (drop_break i) = few_done _ _ _ _
turn_few w where_now = omega arith
turn_few w registers = omega arith
turn_few w (words_from a n) = omega arith
turn_few w (outs_from a n) = omega arith

may_few : (known : Command → Bool) (w : Plain) (text : List ℕ) (r : Ran) (w₁ : Plain) → May known w text r w₁ → length r.showed ≤ 1
unfolding May
may_few known w text r w₁ (inl (c, s, k, e, shows, more, within)) = omega (arith, ap length shows, turn_few w c)
may_few known w text r w₁ (inr (inl (c, s, k, e, shows, none, more))) = omega (arith, ap length shows)
may_few known w text r w₁ (inr (inr (s, e, shows, none, more))) = omega (arith, ap length shows)

-- what was answered
module _ (left : ℕ) (known : Command → Bool) (w : Plain) (text : List ℕ) (L L₁ : Target → Type 0) (m m₁ : List ℕ) (ss : List (List ℕ)) where
  ended : (t : Target) (end steps : ℕ) → (length (runs most_turns own (world t m) (said text) [] 0).showed ≤ 1 → EndedAs (runs most_turns own (world t m) (said text) [] 0) end steps L₁ m₁ ss) →
      Holds (suc left) known own (world t m) w → AnsweredAs left known w text end steps L₁ m₁ ss
  unfolding Holds Stands
  ended t end steps h g =
      let n = g text in
      let v = runs most_turns own (world t m) (said text) [] 0 in
      let f = h (may_few known w text v n.0 n.1) in (
        v,
        n.0,
        f.0,
        f.1,
        f.5,
        n.1,
        (v.here.target, f.2, f.3, subst (λ x. Holds left known own (world v.here.target x) n.0) (sym f.4) n.2),
      )

  pub answered : (r : Result ℕ SayError) (room : ℕ) → Went L m [] text r room L₁ m₁ ss → Stands (suc left) known L m w → Answered left known w text r room L₁ m₁ ss
  unfolding Went Stands Answered Holds
  answered (Ok steps) room h (t, l, q, g) = ended t 0 steps (h t l q) g
  answered (Err (error.Refused why steps)) room h (t, l, q, g) = ended t (refusal_number why) steps (h t l q) g
  answered (Err error.NoMemory) room h (t, l, q, g) = let n = g text in h t l q (may_few known w text (runs most_turns own (world t m) (said text) [] 0) n.0 n.1)

-- the same run, from what is the same
pub went_same : (L L₁ : Target → Type 0) {m m₁ n n₁ : List ℕ} {ss : List (List ℕ)} (ss₁ : List (List ℕ)) (text : List ℕ) (r : Result ℕ SayError) (room : ℕ) → m ≡ n → ss ≡ [] → m₁ ≡ n₁ →
    Went L m ss text r room L₁ m₁ ss₁ → Went L n [] text r room L₁ n₁ ss₁
went_same L L₁ {m} {m₁} {n} {n₁} {ss} ss₁ text r room e s e₁ h =
    subst (λ x. Went L n [] text r room L₁ x ss₁) e₁ (subst (λ x. Went L n x text r room L₁ m₁ ss₁) s (subst (λ x. Went L x ss text r room L₁ m₁ ss₁) e h))

-- at the start
pub stands_first : (L : Target → Type 0) (m : List ℕ) → m ≡ replicate 32000 0 → L (fresh_target []) → Stands 4294967296 core L m first_plain
unfolding Stands Holding own cell
stands_first L m e l =
    (fresh_target [], l, sym (ap (λ x. cell x fed) e ∙ get_or-replicate 32000 2 0 0 (omega arith)), subst (λ x. Holds 4294967296 core own (world (fresh_target []) x) first_plain) (sym e) holding_core.1)
