-- How what the code writes stands for what is spelled. Assumes nothing: these are definitions.
use Rattle.std.specs.Prelude.{◌≡◌, ℕ, List, ◌++◌, length, Ok, Err, Result}
use Rattle.command.specs.Machine.{eight, flat, Instr}
use Rattle.command.specs.Plain.{instr_spelled}

-- so much is written behind what was; or there was no memory
abbrev pub Puts : {A E : Type 0} → List ℕ → List ℕ → Result A E → List ℕ → Type 0
Puts old more (Ok x) new = new ≡ old ++ more
Puts old more (Err e) new = Unit {0}

-- a program: a count, and then each instruction
abbrev pub program_spelled : List Instr → List ℕ
program_spelled is = eight (length is) ++ flat instr_spelled is
