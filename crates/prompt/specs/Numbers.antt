-- What numbers stand for, and how large they may be. Assumes nothing: these are definitions.
use Rattle.std.specs.Prelude.{ℕ}
use Rattle.prompt.specs.declared.quantities.Quantity.{Quantity}
use Rattle.prompt.specs.declared.quantities.Quantity.TheVariants.{Steps, Value, Address, First, Count}

abbrev pub most_of : Quantity → ℕ
most_of Steps = 1000000000
most_of Value = 4294967295
most_of Address = 65535
most_of First = 18446744073709551615
most_of Count = 4096
