-- The numbers of the bases. Assumes nothing: these are definitions.
use Rattle.std.specs.Prelude.{ℕ}
use Rattle.scan.specs.declared.numbers.Base.{Base}
use Rattle.scan.specs.declared.numbers.Base.TheVariants.{Ten, Sixteen}

abbrev pub base_number : Base → ℕ
base_number Ten = 10
base_number Sixteen = 16
