use Rattle.std.proofs.Common.{sym, ◌∙◌, arith, rules}
use Rattle.scan.proofs.Digits.{digits_stop, digits_more, digits_all}
use Rattle.scan.proofs.numbers.number_in.Goals as goal

pub returns-in_err-n : goal.returns-in_err-n
returns-in_err-n g c =
    record {
      value =
          c.from_residual.ensures
          ∙ (sym (digits_stop _ _ c.loop-b.n c.args.text.now c.loop-b.b-index (omega arith) (sym c.in_err-n.ensures.value)) ∙ c.loop-b.invariant.0);
      bound = search rules;
    }

pub loop-b-preserved : goal.loop-b-preserved
loop-b-preserved g c = (
  sym (digits_more _ _ c.loop-b.n c.args.text.now c.loop-b.b-index (omega arith) (sym c.in_ok-n.ensures.value)) ∙ c.loop-b.invariant.0,
  c.in_ok-n.ensures.bound,
)

pub returns : goal.returns
returns g c =
    record {
      value = sym (digits_all _ _ _ c.args.text.now c.loop-b.b-index (omega arith)) ∙ c.loop-b.invariant.0;
      bound = c.loop-b.invariant.1;
    }
