use Rattle.std.proofs.Common.{refl}
use Rattle.command.specs.Machine.{does}
use Rattle.processor.proofs.Instructions.{goes_to}
use Rattle.processor.proofs.state.State.does.Goals as goal

pub returns-in-Load-clause-after : goal.returns-in-Load-clause-after
unfolding does
returns-in-Load-clause-after c =
    λ b s l. simp c.in-Load.is (c.with_reg.ensures.on b s l)

pub returns-in-Copied-clause-after : goal.returns-in-Copied-clause-after
unfolding does
returns-in-Copied-clause-after c =
    λ b s l. simp (c.in-Copied.is, l.like.registers) (simp l.like.registers at (c.with_reg-in-Copied.ensures.on b s l))

pub returns-in-Jump-clause-after : goal.returns-in-Jump-clause-after
unfolding does
returns-in-Jump-clause-after c =
    λ b s l. simp (c.in-Jump.is, c.from-self.ensures) (goes_to b c.args.self.now s l.like c.in-Jump.n)

pub returns-in-Halt-clause-after : goal.returns-in-Halt-clause-after
unfolding does
returns-in-Halt-clause-after c =
    λ b s l. simp c.in-Halt.is (record { like = l.like; why = refl })
