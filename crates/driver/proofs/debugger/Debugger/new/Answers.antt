use Rattle.std.proofs.Common.{refl}
use Rattle.std.proofs.lemmas.Result.{IfOk-from_err}
use Rattle.driver.proofs.Promised.{stands_first}
use Rattle.driver.proofs.debugger.Debugger.new.Goals as goal

pub returns-in_err-row : goal.returns-in_err-row
returns-in_err-row g c = IfOk-from_err c.from_residual-in_err-row.result _ c.from_residual-in_err-row.ensures.0

pub returns-in_err-screen : goal.returns-in_err-screen
returns-in_err-screen g c = IfOk-from_err c.from_residual-in_err-screen.result _ c.from_residual-in_err-screen.ensures.0

pub returns : goal.returns
returns g c = (refl, λ l. stands_first _ _ (c.in_ok-memory.ensures.items_if_clones_equal (λ y e. e)) l)
