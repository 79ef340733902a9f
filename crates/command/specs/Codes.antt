-- What the code's instructions are by the processor's definition. Assumes nothing: these are definitions.
use Rattle.std.specs.Prelude.{ℕ, List}
use Rattle.command.specs.Machine.{each, Instr, load_number, copy, reckon, read, write, jump, jump_if, call, return, take_in, put_out, halt}
use Rattle.command.specs.declared.code.Op.{Op}
use Rattle.command.specs.declared.code.Op.TheVariants.{Sum, Difference, Product, Quotient, Remainder, And, Or, Either, Left, Right}
use Rattle.command.specs.declared.code.Comparison.{Comparison}
use Rattle.command.specs.declared.code.Comparison.TheVariants.{Equal, Unequal, Less, NotLess}
use Rattle.command.specs.declared.code.Instr.{Instr as Code}
use Rattle.command.specs.declared.code.Instr.TheVariants.{Load, Copied, Reckon, Read, Write, Jump, JumpIf, Call, Return, In, Out, Halt}

abbrev pub op_number : Op → ℕ
op_number Sum = 0
op_number Difference = 1
op_number Product = 2
op_number Quotient = 3
op_number Remainder = 4
op_number And = 5
op_number Or = 6
op_number Either = 7
op_number Left = 8
op_number Right = 9

abbrev pub comparison_number : Comparison → ℕ
comparison_number Equal = 0
comparison_number Unequal = 1
comparison_number Less = 2
comparison_number NotLess = 3

abbrev pub code : Code → Instr
code (Load k n) = load_number k.number n
code (Copied k j) = copy k.number j.number
code (Reckon o k j) = reckon (op_number o) k.number j.number
code (Read k b n) = read k.number b.number n
code (Write k b n) = write k.number b.number n
code (Jump n) = jump n
code (JumpIf c k j n) = jump_if (comparison_number c) k.number j.number n
code (Call n) = call n
code Return = return
code (In k) = take_in k.number
code (Out k) = put_out k.number
code Halt = halt

abbrev pub codes : List Code → List Instr
codes is = each code is
