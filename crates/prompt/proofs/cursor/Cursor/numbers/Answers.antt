use Rattle.std.proofs.Common.{[], ◌∷◌, ◌++◌, sym, ◌∙◌, rules}
use Rattle.prompt.proofs.Values.{values_over, values_slip, values_more}
use Rattle.prompt.proofs.cursor.Cursor.numbers.Goals as goal

pub returns-in_err-value : goal.returns-in_err-value
returns-in_err-value c =
    let e =
    sym c.loop-self.invariant.1
    ∙ values_slip c.loop-self.most c.loop-self.invariant.0 c.loop-self.self.rest.now (sym c.loop-self-test.ensures) c.in_err-value.ensures.value in
    search rules

pub loop-self-preserved : goal.loop-self-preserved
loop-self-preserved c = (
  c.loop-self.invariant.0 ++ c.in_ok-value.field-0 ∷ [],
  sym (values_more c.loop-self.most c.loop-self.invariant.0 c.loop-self.self.rest.now c.in_ok-value.ensures.bound (sym c.loop-self-test.ensures) c.in_ok-value.ensures.value)
      ∙ c.loop-self.invariant.1,
)

pub returns : goal.returns
returns c =
    let e =
    sym c.loop-self.invariant.1 ∙ values_over c.loop-self.most c.loop-self.invariant.0 c.loop-self.self.rest.now (sym c.loop-self-test.ensures) in
    search rules
