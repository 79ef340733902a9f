use Rattle.std.proofs.Common.{◌≡◌, ℕ, ◌<◌, ◌≤◌, ◌⊎◌, [], ◌∷◌, Ok, Err, IfErr, Result, sym, ap, ◌∙◌, inl, inr, arith}
use Rattle.std.proofs.lemmas.Bool.{lt-ltb, le-ltb}
use Rattle.std.specs.Option.{option_to_list}
use Rattle.command.specs.Machine.{reckoned}
use Rattle.command.specs.Codes.{op_number}
use Rattle.processor.specs.Reckons.{reckon_reply, reply_of, refusal_number, refusal_of}
use Rattle.processor.specs.declared.arith.ReckonError.{ReckonError}
use Rattle.processor.specs.declared.arith.ReckonError.TheVariants.{NoSuchOp, TooLarge, ByZero}
use Rattle.processor.proofs.Ops.{op_below}
use Rattle.processor.proofs.Faults.{refused, none_fault}
use Rattle.processor.proofs.arith.reckon.Goals as goal

abbrev Replies : (k a b : ℕ) → Result ℕ ReckonError → Type 0
Replies k a b r = (r ≡ reckon_reply k a b) × IfErr r (λ e. refusal_number e ≡ refusal_of k a b)

no_op : (k a b : ℕ) → 10 ≤ k → Replies k a b (Err NoSuchOp)
unfolding reckon_reply refusal_of
no_op k a b h = (simp (le-ltb k 10 h), simp (le-ltb k 10 h))

too_large : (k a b : ℕ) → k < 10 → (4294967296 ≤ a) ⊎ ((a < 4294967296) × (4294967296 ≤ b)) → Replies k a b (Err TooLarge)
unfolding reckon_reply refusal_of
too_large k a b hk (inl h) = (simp (lt-ltb k 10 hk, le-ltb a _ h), simp (lt-ltb k 10 hk, le-ltb a _ h))
too_large k a b hk (inr h) = (simp (lt-ltb k 10 hk, lt-ltb a _ h.0, le-ltb b _ h.1), simp (lt-ltb k 10 hk, lt-ltb a _ h.0, le-ltb b _ h.1))

by_zero : (k a b : ℕ) → k < 10 → a < 4294967296 → b < 4294967296 → [] ≡ reckoned k a b → Replies k a b (Err ByZero)
unfolding reckon_reply refusal_of reply_of
by_zero k a b hk ha hb e = (simp (lt-ltb k 10 hk, lt-ltb a _ ha, lt-ltb b _ hb) (ap reply_of e), simp (lt-ltb k 10 hk, lt-ltb a _ ha, lt-ltb b _ hb))

comes_to : (k a b v : ℕ) → k < 10 → a < 4294967296 → b < 4294967296 → v ∷ [] ≡ reckoned k a b → Ok v ≡ reckon_reply k a b
unfolding reckon_reply reply_of
comes_to k a b v hk ha hb e = simp (lt-ltb k 10 hk, lt-ltb a _ ha, lt-ltb b _ hb) (ap reply_of e)

pub returns-in_err-op : goal.returns-in_err-op
returns-in_err-op c =
    let h = c.in_err-op.ensures in
    let r = refused c.from_residual.result _ _ (Replies c.args.op c.args.a c.args.b) h.0 c.from_residual.ensures.1 (no_op c.args.op c.args.a c.args.b h.1) in
    record { reply = r.0; refused = r.1 }

pub returns-in_err-word_of : goal.returns-in_err-word_of
returns-in_err-word_of c =
    let q : op_number c.in_ok-op.op ≡ c.args.op = c.in_ok-op.ensures in
    let few : c.args.op < 10 = omega (arith, op_below c.in_ok-op.op) in
    let h = c.in_err-word_of.ensures in
    let r = refused c.from_residual-in_err-word_of.result _ _ (Replies c.args.op c.args.a c.args.b) h.0 c.from_residual-in_err-word_of.ensures.1
    (too_large c.args.op c.args.a c.args.b few (inl h.1)) in
    record { reply = r.0; refused = r.1 }

pub returns-in_err-word_of-2 : goal.returns-in_err-word_of-2
returns-in_err-word_of-2 c =
    let q : op_number c.in_ok-op.op ≡ c.args.op = c.in_ok-op.ensures in
    let few : c.args.op < 10 = omega (arith, op_below c.in_ok-op.op) in
    let small : c.args.a < 4294967296 = omega (arith, c.in_ok-word_of.ensures) in
    let h = c.in_err-word_of-2.ensures in
    let r = refused c.from_residual-in_err-word_of-2.result _ _ (Replies c.args.op c.args.a c.args.b) h.0 c.from_residual-in_err-word_of-2.ensures.1
    (too_large c.args.op c.args.a c.args.b few (inr (small, h.1))) in
    record { reply = r.0; refused = r.1 }

pub returns-in_err-v : goal.returns-in_err-v
returns-in_err-v c =
    let q : op_number c.in_ok-op.op ≡ c.args.op = c.in_ok-op.ensures in
    let h = none_fault c.apply.result _ _ (sym c.in_err-v.ensures.value) in
    let e = sym (ap option_to_list h.0) ∙ c.apply.ensures in
    let t = by_zero (op_number c.in_ok-op.op) c.in_ok-word_of.field-0 c.in_ok-word_of-2.field-0 (op_below c.in_ok-op.op) (omega arith) (omega arith) e in
    let r = refused c.from_residual-in_err-v.result _ _ (Replies c.args.op c.args.a c.args.b) h.1 c.from_residual-in_err-v.ensures.1
    (rw (q, c.in_ok-word_of.ensures, c.in_ok-word_of-2.ensures) at t) in
    record { reply = r.0; refused = r.1 }

pub returns : goal.returns
returns c =
    let q : op_number c.in_ok-op.op ≡ c.args.op = c.in_ok-op.ensures in
    let e = sym (ap option_to_list c.in_ok-v.ensures.ok_part) ∙ c.apply.ensures in
    let t = comes_to (op_number c.in_ok-op.op) c.in_ok-word_of.field-0 c.in_ok-word_of-2.field-0 c.in_ok-v.v (op_below c.in_ok-op.op) (omega arith) (omega arith) e in
    record { reply = ap Ok c.from.ensures ∙ (rw (q, c.in_ok-word_of.ensures, c.in_ok-word_of-2.ensures) at t); refused = tt }
