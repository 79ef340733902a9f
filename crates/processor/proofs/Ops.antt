-- The number of a reckoning is below 10. Assumes nothing.
use Rattle.std.proofs.Common.{◌<◌, arith}
use Rattle.command.specs.declared.code.Op.{Op}
use Rattle.command.specs.declared.code.Op.TheVariants.{Sum, Difference, Product, Quotient, Remainder, And, Or, Either, Left, Right}
use Rattle.command.specs.Codes.{op_number}

pub op_below : (o : Op) → op_number o < 10
op_below Sum = omega arith
op_below Difference = omega arith
op_below Product = omega arith
op_below Quotient = omega arith
op_below Remainder = omega arith
op_below And = omega arith
op_below Or = omega arith
op_below Either = omega arith
op_below Left = omega arith
op_below Right = omega arith
