-- What the user reads of a reason and of a refusal. Assumes nothing: these are definitions.
use Rattle.std.specs.Prelude.{ℕ, List, codes as chars}
use Rattle.target.specs.declared.answers.Why.{Why}
use Rattle.target.specs.declared.answers.Why.TheVariants.{Halted, Waits, NoInstr, NoWord, ByZero}
use Rattle.target.specs.declared.answers.Fault.{Fault}
use Rattle.target.specs.declared.answers.Fault.TheVariants.{TooLong, TooManyBreaks, NoSuchSlot, EmptySlot, TooManyNumbers, NoMemory}

abbrev pub why_text : Why → List ℕ
why_text Halted = chars "halted"
why_text Waits = chars "waits"
why_text NoInstr = chars "wrong 1"
why_text NoWord = chars "wrong 2"
why_text ByZero = chars "wrong 3"

abbrev pub fault_text : Fault → List ℕ
fault_text TooLong = chars "the processor takes programs of at most 4096 instructions"
fault_text TooManyBreaks = chars "the processor takes at most 64 breaks"
fault_text NoSuchSlot = chars "the processor has no such slot"
fault_text EmptySlot = chars "the processor has kept nothing there"
fault_text TooManyNumbers = chars "the processor shows at most 4096 numbers at once"
fault_text NoMemory = chars "the processor has no memory left"
