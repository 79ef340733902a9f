-- What is told of what went out. Assumes nothing: these are definitions.
use Rattle.std.specs.Prelude.{ℕ, List, take, drop}

-- of the first `put` of the log at most n, from the given one on
abbrev pub told_outs : (log : List ℕ) (put from n : ℕ) → List ℕ
told_outs log put from n = take n (drop from (take put log))
