-- What a step is lent, as it is taken and as it is left. Assumes nothing: these are definitions.
use Rattle.std.specs.Prelude.{ℕ, List}
use Rattle.std.specs.Borrow.{MutBor}
use Rattle.machine.specs.Engine.{Plan}
use Rattle.machine.specs.Entry.{Carries}
use Rattle.machine.specs.declared.acts.Told.{Told}
use Rattle.machine.specs.declared.lent.Lent.{Lent}

-- a plan carried out on what is lent: memory and row as they are left
abbrev pub Does : {Rest : Type 0} → Plan → Lent → Told → MutBor (List ℕ) × (MutBor (List ℕ) × Rest) → Type 0
Does p lent r left = Carries p lent.memory.now r lent.row.now left.0.now left.1.0.now
