use Rattle.std.proofs.Common.{rules, length, ◌+◌, sym, ap, ◌∙◌, subst, Result}
use Rattle.prompt.specs.Verbs.{verbs}
use Rattle.prompt.specs.declared.mistakes.Expected.{Expected}
use Rattle.prompt.specs.declared.verbs.Verb.{Verb}
use Rattle.prompt.specs.declared.verbs.Verb.TheVariants.{Load}
use Rattle.prompt.proofs.Choices.{Sofar, passed, met_one, met_more, spelled, all_met}
use Rattle.prompt.proofs.verbs.choose.Goals as goal
use Rattle.prompt.proofs.verbs.choose.Goals.{then-begins_with+else-spelled-word+in-Err-Command, then-begins_with+else-spelled-word+in_default, then-begins_with+else-spelled-word+in_default-2, else-begins_with}

pub returns-then-spelled-word : goal.returns-then-spelled-word
returns-then-spelled-word c =
    spelled c.args.word.now verbs c.loop-verb.verb-index Load c.loop-verb.chosen c.loop-verb-test.true (sym c.begins_with.ensures ∙ c.if-begins_with.true) (sym (ap length c.spelled.ensures) ∙ c.if-spelled-word.true) c.loop-verb.invariant

pub loop-verb-preserved : goal.loop-verb-preserved
loop-verb-preserved c =
    let i = c.loop-verb.verb-index in
    let word = c.args.word.now in
    let at = λ (r : Result Verb Expected). Sofar word verbs (i + 1) r in
    elim c.if-begins_with.branch [
      | then-begins_with+else-spelled-word+in-Err-Command w ↦
          subst at (sym w.chosen-is)
          (met_one word verbs i Load c.loop-verb.chosen c.loop-verb-test.true (sym c.begins_with.ensures ∙ w.if-begins_with.true) (λ q. w.if-spelled-word.false (ap length w.spelled.ensures ∙ q)) (search rules) c.loop-verb.invariant)
      | then-begins_with+else-spelled-word+in_default w ↦
          subst at (sym w.chosen-is)
          (met_more word verbs i Load c.loop-verb.chosen c.loop-verb-test.true (sym c.begins_with.ensures ∙ w.if-begins_with.true) (λ q. w.if-spelled-word.false (ap length w.spelled.ensures ∙ q)) (λ q. search rules) c.loop-verb.invariant)
      | then-begins_with+else-spelled-word+in_default-2 w ↦
          subst at (sym w.chosen-is)
          (met_more word verbs i Load c.loop-verb.chosen c.loop-verb-test.true (sym c.begins_with.ensures ∙ w.if-begins_with.true) (λ q. w.if-spelled-word.false (ap length w.spelled.ensures ∙ q)) (λ q. search rules) c.loop-verb.invariant)
      | else-begins_with w ↦
          subst at (sym w.chosen-is)
          (passed word verbs i Load c.loop-verb.chosen c.loop-verb-test.true (sym c.begins_with.ensures ∙ w.if-begins_with.false) c.loop-verb.invariant)
    ]

pub returns : goal.returns
returns c = all_met c.args.word.now verbs c.loop-verb.verb-index c.loop-verb.chosen c.loop-verb-test.false c.loop-verb.invariant
