use Rattle.std.proofs.Common.{arith, ltb-false, ltb-true}
use Rattle.assembler.proofs.Runs.{behind_first}
use Rattle.assembler.proofs.words.behind.Goals as goal

pub returns-then-first-sign : goal.returns-then-first-sign
returns-then-first-sign c = behind_first c.args.sign c.args.text.now (omega (arith, ltb-true, ltb-false)) c.if-first-sign.true
