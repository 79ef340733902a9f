use Rattle.std.proofs.Common.{◌≡◌, ℕ, ◌+◌, ◌-◌, ◌/◌, ◌%◌, ◌<◌, eqb, [], ◌∷◌, Some, None, SomeIff, Option, ap, arith}
use Rattle.std.proofs.lemmas.Bool.{eq-eqb, ne_eqb}
use Rattle.std.specs.Option.{option_to_list}
use Rattle.command.specs.Machine.{pick, reckoned, whole}
use Rattle.command.proofs.Reckons.{and_bits, or_bits, xor_bits, twice_shifts, halved_shifts}
use Rattle.processor.proofs.arith.apply.Goals as goal

pub returns-in-Sum : goal.returns-in-Sum
unfolding reckoned
returns-in-Sum c = simp c.in-Sum.is

pub returns-in-Difference : goal.returns-in-Difference
unfolding reckoned
returns-in-Difference c =
    let e : c.args.a + (whole - c.args.b) ≡ c.args.a + whole - c.args.b = omega arith in simp (c.in-Difference.is, e)

pub returns-in-Product : goal.returns-in-Product
unfolding reckoned
returns-in-Product c = simp c.in-Product.is

-- nothing where the second is 0, as the library's divisions have it
divides : (r : Option ℕ) (b q : ℕ) → SomeIff r (0 < b) q → option_to_list r ≡ pick (eqb b 0) [] (q ∷ [])
divides None b q h = let e : b ≡ 0 = omega arith in simp (eq-eqb b 0 e)
divides (Some x) b q h = let e : b ≡ 0 → ⊥ = λ p. (let r = p in omega (arith, h.0)) in simp (ne_eqb b 0 e) (ap (λ z. z ∷ []) h.1)

pub returns-in-Quotient : goal.returns-in-Quotient
unfolding reckoned
returns-in-Quotient c = simp c.in-Quotient.is (divides c.checked_div.result c.args.b (c.args.a / c.args.b) c.checked_div.ensures)

pub returns-in-Remainder : goal.returns-in-Remainder
unfolding reckoned
returns-in-Remainder c = simp c.in-Remainder.is (divides c.checked_rem.result c.args.b (c.args.a % c.args.b) c.checked_rem.ensures)

pub returns-in-And : goal.returns-in-And
unfolding reckoned
returns-in-And c = simp (c.in-And.is, and_bits c.args.a c.args.b (omega arith) (omega arith))

pub returns-in-Or : goal.returns-in-Or
unfolding reckoned
returns-in-Or c = simp (c.in-Or.is, or_bits c.args.a c.args.b (omega arith) (omega arith))

pub returns-in-Either : goal.returns-in-Either
unfolding reckoned
returns-in-Either c = simp (c.in-Either.is, xor_bits c.args.a c.args.b (omega arith) (omega arith))

pub returns-in-Left : goal.returns-in-Left
unfolding reckoned
returns-in-Left c = simp (c.in-Left.is, twice_shifts (c.args.b % 32) c.args.a (omega arith))

pub returns-in-Right : goal.returns-in-Right
unfolding reckoned
returns-in-Right c = simp (c.in-Right.is, halved_shifts (c.args.b % 32) c.args.a)
