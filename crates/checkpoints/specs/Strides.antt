-- How far to go at once. Assumes nothing: these are definitions.
use Rattle.std.specs.Prelude.{ℕ, ◌-◌, ◌%◌, min}
use Rattle.checkpoints.specs.Numbers.{stride as spacing}

-- no more than is left, and past no multiple of 4,096
unfoldable pub stride : (here left : ℕ) → ℕ
stride here left = min left (spacing - here % spacing)
